-- Three owners in the line of the three-stem wood: the last, at place 2, is served after two turns of the others and not after one.
use Rattle.std.specs.Prelude.{ℕ, ◌≡◌, List, [], ◌∷◌, take}
use Rattle.std.proofs.Math.Option.{some}
use Rattle.turns.specs.declared.TurnEnding.{TurnEnding}
use Rattle.turns.specs.declared.TurnEnding.TheVariants.{Done, Spent}
use Rattle.queues.specs.Lists.{Queue}
use Rattle.queues.specs.Calls.{join, top_up, MadeCall, lent_to, turns, after_calls, deed_of, deeds, turns_in, place_in_line, Fair}
use Rattle.worked_cases.specs.Calls.{surveyed}
use Rattle.worked_cases.specs.Wood.{wood}
use Rattle.worked_uploads.specs.Owners.{by_owner, with_room, serve_ten, no_one}

-- 7, 8 and 9 have joined
abbrev pub line_of_three : Queue
line_of_three =
    after_calls (surveyed wood) no_one
    (with_room (join (by_owner 7 4)) ∷ with_room (join (by_owner 8 100)) ∷ with_room (join (by_owner 9 5)) ∷ [])

-- 9 joins again, refused; 7 is served, and set aside; 8 is topped up, refused, and 7 is, which comes in behind 9; 6 joins; 8 is served, and leaves
abbrev pub two_served : List MadeCall
two_served =
    with_room (join (by_owner 9 6)) ∷ with_room serve_ten ∷ with_room (top_up 8 6) ∷ with_room (top_up 7 6) ∷ with_room (join (by_owner 6 5))
    ∷ with_room serve_ten ∷ []

-- without the last
abbrev pub one_served : List MadeCall
one_served = take 5 two_served

-- the next call serves `owner`, whose turn has the ending `e` after `steps` steps, with `left` steps left
abbrev pub NextServed : List MadeCall → ℕ → TurnEnding → ℕ → ℕ → Type 0
NextServed ms owner e steps left =
    deed_of (surveyed wood) (lent_to (after_calls (surveyed wood) line_of_three ms) (with_room serve_ten)) serve_ten ≡ turns owner e steps left

-- of the two turns that fairness allows the second is needed: after the first 9 is at place 1, and 8 is served next; after both it is at the front,
-- and its own turn follows
pub record BothNeeded : Type 0 where
  pub place : place_in_line 9 line_of_three.line ≡ some 2
  pub fair : Fair (surveyed wood) line_of_three 9 2
  pub one : turns_in (deeds (surveyed wood) line_of_three one_served) ≡ 1
  pub then_second : place_in_line 9 (after_calls (surveyed wood) line_of_three one_served).line ≡ some 1
  pub anothers : NextServed one_served 8 Done 10 90
  pub two : turns_in (deeds (surveyed wood) line_of_three two_served) ≡ 2
  pub then_first : place_in_line 9 (after_calls (surveyed wood) line_of_three two_served).line ≡ some 0
  pub its_own : NextServed two_served 9 Spent 5 0
