-- Tests over a list from a place on: past the next element, and at the end. A loop over the list keeps them true.
use Prim.Native.Nat.{ℕ, ◌+◌, ◌-◌, ◌≤◌, ◌<◌}
use native.Mathlib.Omega.{arith}
use native.Mathlib.Numerals.{add-one}
use mathlib.Core.Path.{◌≡◌, refl, sym, ◌∙◌, ap}
use mathlib.Core.Bool.{Bool, true, false, ◌&&◌, not}
use mathlib.Core.List.{List, [], ◌∷◌}
use lib.ListN.{length, get_or, take, drop, length-drop, drop_of_length-le}
use lib.Seq.{take_all, drop-cons}
use Rattle.sequences.specs.Sequences.{member, distinct}

-- a part to the end of a slice, as it is lent
pub rest_of : (xs : List ℕ) (i : ℕ) → take (length xs - i) (drop i xs) ≡ drop i xs
rest_of xs i = take_all (length xs - i) (drop i xs) (simp length-drop (omega arith))

pub rest_length : (xs : List ℕ) (i : ℕ) → length (take (length xs - i) (drop i xs)) ≡ length xs - i
rest_length xs i = ap length (rest_of xs i) ∙ length-drop i xs

-- an empty list reads as 0
pub first_none : (xs : List ℕ) → length xs ≡ 0 → get_or xs 0 0 ≡ 0
first_none [] h = refl
first_none (x ∷ xs) h = absurd (omega arith)

module _ (xs : List ℕ) (i : ℕ) where
  -- ---- no word twice
  pub distinct_end : length xs ≤ i → distinct (drop i xs) ≡ true
  unfolding distinct
  distinct_end h = rw (drop_of_length-le xs h)

  module _ (h : i < length xs) (again : Bool) (e : again ≡ member (get_or xs i 0) (take (length xs - (i + 1)) (drop (i + 1) xs))) where
    distinct_step : distinct (drop i xs) ≡ (not (member (get_or xs i 0) (drop (i + 1) xs)) && distinct (drop (i + 1) xs))
    unfolding distinct
    distinct_step = rw (add-one, drop-cons xs i 0)

    found : member (get_or xs i 0) (drop (i + 1) xs) ≡ again
    found = sym (e ∙ ap (member (get_or xs i 0)) (rest_of xs (i + 1)))

    pub distinct_goes : again ≡ false → distinct (drop i xs) ≡ distinct (drop (i + 1) xs)
    distinct_goes a = distinct_step ∙ rw (found, a)

    pub distinct_stops : again ≡ true → distinct (drop i xs) ≡ false
    distinct_stops a = distinct_step ∙ rw (found, a)
