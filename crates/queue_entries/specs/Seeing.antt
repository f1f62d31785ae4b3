-- What a look over both lists finds. Assumes nothing: these are definitions.
use Rattle.std.specs.Prelude.{ℕ, min, ◌≡◌, true, false, [], length}
use Rattle.queues.specs.Lists.{LentLists, line_of, aside_of, owners_in}
use Rattle.queue_entries.specs.declared.Seen.{Seen}
use Rattle.queue_entries.specs.Entries.{FoundAt, standing}

pub record SeenOf (l : LentLists) (owner : ℕ) (s : Seen) : Type 0 where
  -- test 17 of the line, and of the list set aside
  pub lined : s.lined ≡ standing true (line_of l) (owners_in (aside_of l))
  pub rested : s.rested ≡ standing false (aside_of l) []
  -- the entries that are lent
  pub waiting : s.waiting ≡ min l.waiting (length l.line)
  pub resting : s.resting ≡ min l.resting (length l.aside)
  -- where the owner's entry stands in each list, or its end
  pub place : FoundAt l.line 0 s.waiting owner s.place
  pub found : FoundAt l.aside 0 s.resting owner s.found
  -- the entries that each buffer has
  pub room : s.room ≡ length l.line
  pub spare : s.spare ≡ length l.aside
