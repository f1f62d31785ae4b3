-- A number below another that passes a test, and an element that stands at some place of a list.
use Prim.Native.Nat.{ℕ, zero, suc, ◌<◌}
use native.Mathlib.Omega.{arith}
use mathlib.Core.Path.{◌≡◌, refl}
use mathlib.Core.Bool.{Bool, true, false, not, ◌&&◌}
use mathlib.Core.Logic.{◌⊎◌, inl, inr}
use mathlib.Core.List.{List, [], ◌∷◌, map}
use lib.ListN.{length, get_or}
use borrow.Author.Tests.{not-true}
use Rattle.sequences.specs.Sequences.{all_below, some_below}
use Rattle.sequences.proofs.Booleans.{absurd_true, Decided, yes, no, decided}
use Rattle.sequences.proofs.Counting.{all_at_lem}
use Rattle.sequences.proofs.Orders.{Three, less, same, more, three}
use Rattle.sequences.proofs.Each.{Each}

-- ---- some number below n
pub record Some (f : ℕ → Bool) (n : ℕ) : Type 0 where
  pub which : ℕ
  pub below : which < n
  pub passes : f which ≡ true

left : (a b : Bool) → b ≡ false → not (a && not b) ≡ true → not a ≡ true
left a true p e = absurd_true refl p
left true false p e = e
left false false p e = refl

pub some_at : (f : ℕ → Bool) (n : ℕ) → some_below f n ≡ true → Some f n
unfolding all_below
some_at f zero e = absurd_true e refl
some_at f (suc n) e = go (decided (f n)) (λ q. some_at f n q)
  where
    go : Decided (f n) → (some_below f n ≡ true → Some f n) → Some f (suc n)
    go (yes p) ih = record { which = n; below = omega arith; passes = p }
    go (no p) ih =
        let q : some_below f n ≡ true = left (all_below (λ j. not (f j)) n) (f n) p e in
        let r = ih q in
        let b = r.below in
        record { which = r.which; below = omega arith; passes = r.passes }

pub at_some : (f : ℕ → Bool) (n i : ℕ) → i < n → f i ≡ true → some_below f n ≡ true
at_some f n i h p = go (decided (all_below (λ j. not (f j)) n))
  where
    go : Decided (all_below (λ j. not (f j)) n) → some_below f n ≡ true
    go (no q) = rw q
    go (yes q) = absurd_true p (not-true (f i) (all_at_lem (λ j. not (f j)) n q i h))

-- ---- elements by their places
pub each_at : {A : Type 0} (P : A → Type 0) (xs : List A) (d : A) → Each P xs → (p : ℕ) → p < length xs → P (get_or xs p d)
each_at P [] d e p h = absurd (omega arith)
each_at P (x ∷ xs) d e zero h = e.0
each_at P (x ∷ xs) d e (suc p) h = each_at P xs d e.1 p (omega arith)

pub map_at : {A B : Type 0} (f : A → B) (xs : List A) (d : A) (e : B) (p : ℕ) → p < length xs → get_or (map f xs) p e ≡ f (get_or xs p d)
map_at f [] d e p h = absurd (omega arith)
map_at f (x ∷ xs) d e zero h = refl
map_at f (x ∷ xs) d e (suc p) h = map_at f xs d e p (omega arith)

-- a number stands at some place, or at none
pub record Stands (xs : List ℕ) (i : ℕ) : Type 0 where
  pub place : ℕ
  pub inside : place < length xs
  pub is : get_or xs place 0 ≡ i

pub stands : (xs : List ℕ) (i : ℕ) → Stands xs i ⊎ Each (λ x. x ≡ i → ⊥) xs
stands [] i = inr tt
stands (x ∷ xs) i = go (three x i) (stands xs i)
  where
    go : Three x i → Stands xs i ⊎ Each (λ y. y ≡ i → ⊥) xs → Stands (x ∷ xs) i ⊎ Each (λ y. y ≡ i → ⊥) (x ∷ xs)
    go (same h) r = inl (record { place = 0; inside = omega arith; is = h })
    go (less h) (inl r) = let b = r.inside in inl (record { place = suc r.place; inside = omega arith; is = r.is })
    go (less h) (inr r) = inr ((λ e. omega arith), r)
    go (more h) (inl r) = let b = r.inside in inl (record { place = suc r.place; inside = omega arith; is = r.is })
    go (more h) (inr r) = inr ((λ e. omega arith), r)
