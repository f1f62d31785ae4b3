-- The tests of a dictionary step by step, as the walks over its bytes, ends and strings make them.
use Prim.Native.Nat.{ℕ, zero, suc, ◌+◌, ◌-◌, ◌≤◌, ◌<◌}
use native.Mathlib.Omega.{arith}
use native.Mathlib.Numerals.{add-one}
use mathlib.Core.Path.{◌≡◌, refl, ap, ap₂}
use mathlib.Core.Bool.{Bool, true, false, ◌&&◌}
use mathlib.Core.List.{List, [], ◌∷◌}
use Rattle.std.specs.List.{list_all}
use lib.Dec.{eqb}
use lib.ListN.{length, get_or, drop, drop_of_length-le}
use lib.Seq.{drop-cons}
use borrow.Author.Tests.{le-leb, lt-leb}
use Rattle.sequences.specs.Sequences.{all, neighbours}
use Rattle.dictionaries.specs.Dictionaries.{ends_right}

-- ---- a test of all elements, from a place on
module _ {A : Type 0} (f : A → Bool) (xs : List A) (d : A) (i : ℕ) where
  pub all_step : i < length xs → f (get_or xs i d) ≡ true → all f (drop i xs) ≡ all f (drop (i + 1) xs)
  unfolding all
  all_step h e = rw (add-one i, drop-cons xs i d h, e) refl

  pub all_stop : i < length xs → f (get_or xs i d) ≡ false → all f (drop i xs) ≡ false
  unfolding all
  all_stop h e = rw (drop-cons xs i d h, e) refl

  pub all_end : length xs ≤ i → all f (drop i xs) ≡ true
  unfolding all
  all_end h = rw (drop_of_length-le xs {i = i} h) refl

-- ---- a test of all elements, as std makes it, and two tests that say the same of each
pub all_listed : {A : Type 0} (f : A → Bool) (xs : List A) → list_all f xs ≡ all f xs
unfolding all
all_listed f [] = refl
all_listed f (x ∷ xs) = ap (λ b. f x && b) (all_listed f xs)

pub all_alike : {A : Type 0} (f g : A → Bool) (xs : List A) (d : A) → ((i : ℕ) → i < length xs → f (get_or xs i d) ≡ g (get_or xs i d)) → all f xs ≡ all g xs
unfolding all
all_alike f g [] d h = refl
all_alike f g (x ∷ xs) d h = ap₂ (λ a b. a && b) (h 0 (omega arith)) (all_alike f g xs d (λ i k. h (suc i) (omega arith)))

-- ---- ends, from a place on
module _ (n last : ℕ) (ends : List ℕ) (i : ℕ) where
  pub ends_step : i < length ends → last ≤ get_or ends i 0 → ends_right n last (drop i ends) ≡ ends_right n (get_or ends i 0) (drop (i + 1) ends)
  unfolding ends_right
  ends_step h e = rw (add-one i, drop-cons ends i 0 h, le-leb last (get_or ends i 0) e) refl

  pub ends_stop : i < length ends → get_or ends i 0 < last → ends_right n last (drop i ends) ≡ false
  unfolding ends_right
  ends_stop h e = rw (drop-cons ends i 0 h, lt-leb last (get_or ends i 0) e) refl

  pub ends_end : length ends ≤ i → ends_right n last (drop i ends) ≡ eqb last n
  unfolding ends_right
  ends_end h = rw (drop_of_length-le ends {i = i} h) refl

-- ---- each two neighbours pass, from the one before a place on
module _ {A : Type 0} (g : A → A → Bool) (xs : List A) (d : A) where
  pub next_goes : (i : ℕ) → 0 < i → i < length xs → g (get_or xs (i - 1) d) (get_or xs i d) ≡ true
      → neighbours g (drop (i - 1) xs) ≡ neighbours g (drop (i + 1 - 1) xs)
  unfolding neighbours
  next_goes zero p h e = absurd (omega arith)
  next_goes (suc i) p h e =
      let z : suc i - 1 ≡ i = omega arith in
      let y : suc i + 1 - 1 ≡ suc i = omega arith in
      let f : g (get_or xs i d) (get_or xs (suc i) d) ≡ true = rw z at e in
      rw (z, y, drop-cons xs i d (omega arith), drop-cons xs (suc i) d h, f) refl

  pub next_stops : (i : ℕ) → 0 < i → i < length xs → g (get_or xs (i - 1) d) (get_or xs i d) ≡ false → neighbours g (drop (i - 1) xs) ≡ false
  unfolding neighbours
  next_stops zero p h e = absurd (omega arith)
  next_stops (suc i) p h e =
      let z : suc i - 1 ≡ i = omega arith in
      let f : g (get_or xs i d) (get_or xs (suc i) d) ≡ false = rw z at e in
      rw (z, drop-cons xs i d (omega arith), drop-cons xs (suc i) d h, f) refl

  pub next_ends : (i : ℕ) → length xs ≤ i → neighbours g (drop (i - 1) xs) ≡ true
  unfolding neighbours
  next_ends i h = ends_by xs (i - 1) (omega arith)
    where
      ends_by : (ys : List A) (k : ℕ) → length ys ≤ k + 1 → neighbours g (drop k ys) ≡ true
      ends_by [] zero h = refl
      ends_by [] (suc k) h = refl
      ends_by (y ∷ []) zero h = refl
      ends_by (y ∷ z ∷ ys) zero h = absurd (omega arith)
      ends_by (y ∷ ys) (suc k) h = ends_by ys k (omega arith)
