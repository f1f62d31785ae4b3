-- Tests that follow each other, by their numbers.
use mathlib.Core.Path.{◌≡◌, refl, sym, ap}
use mathlib.Core.Bool.{Bool, true, false, cond}
use mathlib.Core.List.{List, ◌++◌}
use lib.Dec.{eqb}
use borrow.Author.Tests.{eqb-true, eqb-false}
use Rattle.sequences.specs.Sequences.{all}
use Rattle.words.specs.Tests.{Test, first_failing, number_of}
use Rattle.words.proofs.Numbering.{is_numbered, none_fails, front_decides, rest_decides}
use Rattle.queue_changes.specs.Changes.{first_number}

-- the first list decides where one of its tests fails, else the second
pub numbers_follow : (xs ys : List Test) → all is_numbered xs ≡ true
    → first_number (number_of (first_failing xs)) (number_of (first_failing ys)) ≡ number_of (first_failing (xs ++ ys))
numbers_follow xs ys h = by_first (eqb (number_of (first_failing xs)) 0) refl
  where
    by_first : (b : Bool) → eqb (number_of (first_failing xs)) 0 ≡ b
        → cond b (number_of (first_failing ys)) (number_of (first_failing xs)) ≡ number_of (first_failing (xs ++ ys))
    by_first true e = sym (ap number_of (rest_decides xs ys (none_fails xs h (eqb-true (number_of (first_failing xs)) 0 e))))
    by_first false e = front_decides xs ys (number_of (first_failing xs)) refl (eqb-false (number_of (first_failing xs)) 0 e)
