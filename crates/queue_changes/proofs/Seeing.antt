-- What a look over both lists found, as the tests of the calls read it.
use Prim.Native.Nat.{ℕ, ◌+◌, ◌≤◌}
use native.Mathlib.Nat.{min-le_right}
use native.Mathlib.Omega.{arith}
use mathlib.Core.Path.{◌≡◌, sym, ◌∙◌, ap}
use mathlib.Core.Bool.{true, ◌&&◌}
use mathlib.Core.List.{List}
use lib.Dec.{leb, ltb}
use lib.ListN.{length, take}
use borrow.Author.Tests.{leb-true}
use Rattle.sequences.specs.Sequences.{member}
use Rattle.sequences.proofs.Booleans.{and_left, and_right}
use Rattle.queues.specs.declared.Entry.{Entry}
use Rattle.queues.specs.Lists.{most_entries, lent_as, owners_in, entries_right, space_right}
use Rattle.queue_entries.specs.declared.Seen.{Seen}
use Rattle.queue_entries.specs.Seeing.{SeenOf}
use Rattle.queue_entries.proofs.Standing.{both_stand}
use Rattle.queue_entries.proofs.Finding.{found_member}
use Rattle.queue_entries.proofs.Seeing.{taken_all}
use Rattle.queue_changes.specs.Changes.{room_by}

module _ (line : List Entry) (given : ℕ) (aside : List Entry) (kept owner : ℕ) (seen : Seen) (is : SeenOf (lent_as line given aside kept) owner seen) where
  pub seen_entries : (seen.lined && seen.rested) ≡ entries_right (lent_as line given aside kept)
  seen_entries = (λ i. is.lined i && is.rested i) ∙ sym (both_stand (lent_as line given aside kept))

  pub seen_room : (more : ℕ) → room_by seen.room seen.spare given kept more ≡ space_right more (lent_as line given aside kept)
  seen_room more = λ i. room_by (is.room i) (is.spare i) given kept more

  waiting_all : take seen.waiting line ≡ take given line
  waiting_all = ap (λ (n : ℕ). take n line) is.waiting ∙ taken_all given line

  resting_all : take seen.resting aside ≡ take kept aside
  resting_all = ap (λ (n : ℕ). take n aside) is.resting ∙ taken_all kept aside

  pub seen_line : ltb seen.place seen.waiting ≡ member owner (owners_in (take given line))
  seen_line =
      found_member line 0 seen.waiting owner seen.place (rw is.waiting (min-le_right given (length line)))
      (let z : 0 ≤ seen.waiting = omega arith in z) is.place
      ∙ ap (λ (es : List Entry). member owner (owners_in es)) waiting_all

  pub seen_aside : ltb seen.found seen.resting ≡ member owner (owners_in (take kept aside))
  seen_aside =
      found_member aside 0 seen.resting owner seen.found (rw is.resting (min-le_right kept (length aside)))
      (let z : 0 ≤ seen.resting = omega arith in z) is.found
      ∙ ap (λ (es : List Entry). member owner (owners_in es)) resting_all

-- both buffers are long enough, and there are not too many entries
pub record Roomy (room spare given kept more : ℕ) : Type 0 where
  pub line : most_entries ≤ room
  pub aside : most_entries ≤ spare
  pub entries : given + kept + more ≤ most_entries

pub roomy : (room spare given kept more : ℕ) → room_by room spare given kept more ≡ true → Roomy room spare given kept more
roomy room spare given kept more h =
    let rest = and_right (leb most_entries room) (leb most_entries spare && leb (given + kept + more) most_entries) h in
    record {
      line = leb-true most_entries room (and_left (leb most_entries room) (leb most_entries spare && leb (given + kept + more) most_entries) h);
      aside = leb-true most_entries spare (and_left (leb most_entries spare) (leb (given + kept + more) most_entries) rest);
      entries = leb-true (given + kept + more) most_entries (and_right (leb most_entries spare) (leb (given + kept + more) most_entries) rest);
    }
