-- Two functions that agree along a list, found by computing both lists once.
use Prim.Native.Nat.{ℕ, zero, suc, ◌+◌, ◌<◌}
use native.Mathlib.Nat.{add-zero, zero-add, add-suc, suc-add, le_of_suc-le-suc, not-suc-le-zero}
use mathlib.Core.Path.{◌≡◌, sym, ◌∙◌, subst}
use mathlib.Core.List.{List, [], ◌∷◌}
use lib.ListN.{length, get_or}

module _ {A : Type 0} where
  abbrev pub mapped : (ℕ → ℕ → A) → ℕ → List ℕ → List A
  mapped f i [] = []
  mapped f i (x ∷ xs) = f i x ∷ mapped f (suc i) xs

  head_same : (a b : A) (l m : List A) → a ∷ l ≡ b ∷ m → a ≡ b
  head_same a b l m e = cc

  tail_same : (a b : A) (l m : List A) → a ∷ l ≡ b ∷ m → l ≡ m
  tail_same a b l m e = cc

  module _ (f g : ℕ → ℕ → A) where
    from : (xs : List ℕ) (i k : ℕ) → mapped f i xs ≡ mapped g i xs → k < length xs → f (i + k) (get_or xs k 0) ≡ g (i + k) (get_or xs k 0)
    from [] i k e h = absurd (not-suc-le-zero h)
    from (x ∷ xs) i zero e h =
        subst (λ (m : ℕ). f m x ≡ g m x) (sym (add-zero i)) (head_same (f i x) (g i x) (mapped f (suc i) xs) (mapped g (suc i) xs) e)
    from (x ∷ xs) i (suc k) e h =
        subst (λ (m : ℕ). f m (get_or xs k 0) ≡ g m (get_or xs k 0)) (suc-add i k ∙ sym (add-suc i k))
        (from xs (suc i) k (tail_same (f i x) (g i x) (mapped f (suc i) xs) (mapped g (suc i) xs) e) (le_of_suc-le-suc h))

    pub agree : (xs : List ℕ) (k : ℕ) → mapped f 0 xs ≡ mapped g 0 xs → k < length xs → f k (get_or xs k 0) ≡ g k (get_or xs k 0)
    agree xs k e h = subst (λ (m : ℕ). f m (get_or xs k 0) ≡ g m (get_or xs k 0)) (zero-add k) (from xs 0 k e h)
