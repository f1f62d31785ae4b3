-- What the functions over lent lists of entries find and leave, by places. Assumes nothing: these are definitions.
use Rattle.std.specs.Prelude.{ℕ, zero, suc, ◌+◌, ◌-◌, ◌≤◌, ◌<◌, ◌≡◌, Bool, true, false, cond, ◌&&◌, not, List, [], ◌∷◌, set, get_or, replicate}
use Rattle.sequences.specs.Sequences.{member}
use Rattle.queues.specs.declared.Entry.{Entry}
use Rattle.queues.specs.Lists.{entry_plan_room, entry_state_room, owners_in, has_steps, has_none}

-- what stands past the end of a list
abbrev pub nobody : Entry
nobody = record { allowance = 0; owner = 0; planned = 0; saved = 0; plan = replicate entry_plan_room 0; state = replicate entry_state_room 0 }

-- the first place from `start` on and below `end` at which an entry of `owner` stands, or `end` where there is none
pub record FoundAt (es : List Entry) (start end owner r : ℕ) : Type 0 where
  pub least : start ≤ r
  pub most : r ≤ end
  pub not_before : (k : ℕ) → start ≤ k → k < r → (get_or es k nobody).owner ≡ owner → ⊥
  pub its : r < end → (get_or es r nobody).owner ≡ owner

-- an entry of the line has steps left, one that is set aside has none
abbrev pub steps_right : Bool → Entry → Bool
steps_right true e = has_steps e
steps_right false e = has_none e

-- the entries of one list are right: their steps, and no owner of them is among those behind or among `others`
unfoldable pub standing : Bool → List Entry → List ℕ → Bool
standing waiting [] others = true
standing waiting (e ∷ es) others =
    (steps_right waiting e && (not (member e.owner (owners_in es)) && not (member e.owner others))) && standing waiting es others

-- a number of entries move up by one, each over the one before it, the first over the one at the place `at`
abbrev pub moved_up : List Entry → ℕ → ℕ → List Entry
moved_up ys at zero = ys
moved_up ys at (suc k) = set (moved_up ys at k) (at + k) (get_or (moved_up ys at k) (at + k + 1) nobody)

-- the entries behind `gap` move up, up to the one at `last`; and there `e` is written, if `adds` says so
abbrev pub settled : List Entry → ℕ → ℕ → Bool → Entry → List Entry
settled ys gap last adds e = cond adds (set (moved_up ys gap (last - gap)) last e) (moved_up ys gap (last - gap))
