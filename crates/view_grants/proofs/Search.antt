-- The first word of an ascending list that is not less than another: where that one stands, if it is there.
use Prim.Native.Nat.{ℕ, zero, suc, ◌≤◌, ◌<◌}
use native.Mathlib.Omega.{arith}
use mathlib.Core.Path.{◌≡◌, refl, sym, ◌∙◌, ap}
use mathlib.Core.Bool.{Bool, true, false, ◌||◌}
use mathlib.Core.List.{List, [], ◌∷◌}
use lib.Dec.{eqb, ltb}
use lib.ListN.{length, get_or}
use borrow.Author.Tests.{eq-eqb, ne_eqb, eqb-true, eqb-false, lt-ltb, le-ltb, ltb-true, ltb-false}
use Rattle.sequences.specs.Sequences.{neighbours, member}
use Rattle.sequences.proofs.Booleans.{Decided, yes, no, decided}
use Rattle.sequences.proofs.Ascending.{neighbours_ascending}
use Rattle.sequences.proofs.Counting.{count_le, count_mono}
use Rattle.sequences.proofs.Downward.{passes_below, fails_from}
use Rattle.sequences.proofs.Orders.{Ordered, less, same, more, three}
use Rattle.sequences.proofs.SortedStrictly.{ascending_pairs}
use Rattle.view_grants.specs.Places.{first_from}

-- ---- a word among others, by its place
or-true : (a b : Bool) → b ≡ true → a || b ≡ true
or-true true b e = refl
or-true false b e = e

at_member : (w : ℕ) (xs : List ℕ) (i : ℕ) → i < length xs → get_or xs i 0 ≡ w → member w xs ≡ true
unfolding member
at_member w [] i h e = absurd (omega arith)
at_member w (x ∷ xs) zero h e = rw (eq-eqb w x (sym e))
at_member w (x ∷ xs) (suc i) h e = or-true (eqb w x) (member w xs) (at_member w xs i (omega arith) e)

none_member : (w : ℕ) (xs : List ℕ) → ((i : ℕ) → i < length xs → get_or xs i 0 ≡ w → ⊥) → member w xs ≡ false
unfolding member
none_member w [] n = refl
none_member w (x ∷ xs) n =
    rw (ne_eqb w x (λ e. n zero (omega arith) (sym e))) (none_member w xs (λ i h. n (suc i) (omega arith)))

-- ---- numbers in their own order
less_ordered : Ordered ltb
less_ordered =
    record {
      trans = λ a b c p q. let h = ltb-true a b p in let k = ltb-true b c q in lt-ltb a c (omega arith);
      asym = λ a b p. let h = ltb-true a b p in le-ltb b a (omega arith);
      weak = λ a b c p q. let h = ltb-true a b p in let k = ltb-false c b q in lt-ltb a c (omega arith);
    }

-- a greater word is sought no earlier
pub first_later : (xs : List ℕ) (w v : ℕ) → w ≤ v → first_from xs w ≤ first_from xs v
unfolding first_from
first_later xs w v h =
    count_mono (λ i. ltb (get_or xs i 0) w) (λ i. ltb (get_or xs i 0) v) (length xs)
    (λ i l e. let a = ltb-true (get_or xs i 0) w e in lt-ltb (get_or xs i 0) v (omega arith))

module _ (xs : List ℕ) (up : neighbours ltb xs ≡ true) (w : ℕ) where
  abbrev before : ℕ → Bool
  before i = ltb (get_or xs i 0) w

  rises : (j i : ℕ) → j < i → i < length xs → get_or xs j 0 < get_or xs i 0
  rises j i h l = ltb-true _ _ (ascending_pairs ltb xs 0 (neighbours_ascending less_ordered xs up) j i h l)

  down : (j i : ℕ) → j < i → i < length xs → before i ≡ true → before j ≡ true
  down j i h l e = let a = rises j i h l in let b = ltb-true (get_or xs i 0) w e in lt-ltb (get_or xs j 0) w (omega arith)

  pub first_most : first_from xs w ≤ length xs
  unfolding first_from
  first_most = count_le before (length xs)

  -- a lesser word stands before it, another not
  pub first_after : (i : ℕ) → i < length xs → get_or xs i 0 < w → i < first_from xs w
  unfolding first_from
  first_after i h l = passes_below before (length xs) down i h (lt-ltb (get_or xs i 0) w l)

  pub first_upto : (i : ℕ) → i < length xs → w ≤ get_or xs i 0 → first_from xs w ≤ i
  unfolding first_from
  first_upto i h l = fails_from before (length xs) down i h (le-ltb (get_or xs i 0) w l)

  -- past the end, no word is it
  pub first_none : length xs ≤ first_from xs w → member w xs ≡ false
  first_none h = none_member w xs (λ i l e. let k = first_upto i l (omega arith) in omega arith)

  -- else the word there decides
  pub first_yes : first_from xs w < length xs → get_or xs (first_from xs w) 0 ≡ w → member w xs ≡ true
  first_yes h e = at_member w xs (first_from xs w) h e

  pub first_no : first_from xs w < length xs → (get_or xs (first_from xs w) 0 ≡ w → ⊥) → member w xs ≡ false
  first_no h n =
      none_member w xs
      (λ i l e.
      let k = first_upto i l (omega arith) in
      elim (three (first_from xs w) i) [
        | less m ↦ let a = rises (first_from xs w) i m l in let b = first_after (first_from xs w) h (omega arith) in omega arith
        | same m ↦ n (ap (λ j. get_or xs j 0) m ∙ e)
        | more m ↦ omega arith
      ])

  pub first_decides : (lo : ℕ) → lo ≡ first_from xs w → lo < length xs → eqb (get_or xs lo 0) w ≡ member w xs
  first_decides lo e h = go (decided (eqb (get_or xs lo 0) w))
    where
      go : Decided (eqb (get_or xs lo 0) w) → eqb (get_or xs lo 0) w ≡ member w xs
      go (yes p) = p ∙ sym (first_yes (omega arith) (ap (λ i. get_or xs i 0) (sym e) ∙ eqb-true (get_or xs lo 0) w p))
      go (no p) = p ∙ sym (first_no (omega arith) (λ q. eqb-false (get_or xs lo 0) w p (ap (λ i. get_or xs i 0) e ∙ q)))
