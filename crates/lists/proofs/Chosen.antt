-- Some of the lists, none of them taken twice, hold no more of anything than all of them.
use Prim.Native.Nat.{ℕ, zero, suc, ◌+◌, ◌≤◌}
use native.Mathlib.Omega.{arith}
use mathlib.Core.Path.{◌≡◌, refl, sym, ap, ap₂}
use mathlib.Core.Bool.{Bool, true, false, not}
use mathlib.Core.List.{List, [], ◌∷◌, map, flatten}
use lib.Dec.{eqb}
use lib.ListN.{get_or, set}
use lib.Seq.{get_or-set_other}
use borrow.Author.Tests.{eqb-false, not-true}
use Rattle.sequences.specs.Sequences.{member, distinct}
use Rattle.sequences.proofs.Booleans.{and_left, and_right, or_left, or_right}
use Rattle.lists.proofs.Counts.{count, count_nil, count_append}

module _ {A : Type 0} where
  -- with one list emptied, those at other places are as they were
  pub others : (xss : List (List A)) (i : ℕ) (js : List ℕ) → member i js ≡ false
      → map (λ j. get_or (set xss i []) j []) js ≡ map (λ j. get_or xss j []) js
  unfolding member
  others xss i [] e = refl
  others xss i (j ∷ js) e =
      ap₂ ◌∷◌ (get_or-set_other xss i j [] [] (λ q. eqb-false i j (or_left (eqb i j) (member i js) e) (sym q)))
      (others xss i js (or_right (eqb i j) (member i js) e))

module _ {A : Type 0} (f : A → Bool) where
  -- one list emptied
  count_set : (xss : List (List A)) (i : ℕ)
      → count f (get_or xss i []) + count f (flatten (set xss i [])) ≡ count f (flatten xss)
  unfolding flatten
  count_set [] i = omega (arith, count_nil f)
  count_set (xs ∷ xss) zero = omega (arith, count_nil f, count_append f xs (flatten xss))
  count_set (xs ∷ xss) (suc i) =
      let h = count_set xss i in
      omega (arith, count_append f xs (flatten xss), count_append f xs (flatten (set xss i [])))

  pub count_chosen : (chosen : List ℕ) (xss : List (List A)) → distinct chosen ≡ true
      → count f (flatten (map (λ i. get_or xss i []) chosen)) ≤ count f (flatten xss)
  unfolding distinct flatten
  count_chosen [] xss d = omega (arith, count_nil f)
  count_chosen (i ∷ is) xss d =
      let e = not-true (member i is) (and_left (not (member i is)) (distinct is) d) in
      let h = count_chosen is (set xss i []) (and_right (not (member i is)) (distinct is) d) in
      let o = ap (λ l. count f (flatten l)) (others xss i is e) in
      omega (arith, count_set xss i, count_append f (get_or xss i []) (flatten (map (λ j. get_or xss j []) is)))
