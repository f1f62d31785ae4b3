-- The numbers below n: how many they are, that each is below n, that they rise, and which of them pass a test.
use Prim.Native.Nat.{ℕ, zero, suc, ◌≤◌, ◌<◌}
use native.Mathlib.Omega.{arith}
use mathlib.Core.Path.{◌≡◌, refl, sym, ◌∙◌, ap, subst}
use mathlib.Core.Bool.{Bool, true}
use mathlib.Core.Logic.{◌⊎◌, inl, inr}
use mathlib.Core.List.{[], ◌∷◌, ◌++◌}
use lib.Dec.{ltb}
use lib.ListN.{length, length-append}
use borrow.Author.Tests.{lt-ltb}
use Rattle.sequences.specs.Sequences.{all, keep, numbers}
use Rattle.sequences.specs.Sorting.{sort_by}
use Rattle.sequences.proofs.Elements.{all_append, all_cons}
use Rattle.sequences.proofs.Orders.{Three, less, same, more, three}
use Rattle.sequences.proofs.Each.{Each, each_append}
use Rattle.sequences.proofs.EachMore.{each_left, each_right}
use Rattle.sequences.proofs.Ascending.{Ascending}
use Rattle.sequences.proofs.Keeping.{keep_append, keep_yes}
use Rattle.sequences.proofs.SortingParts.{each_sorted}
use Rattle.sequences.proofs.Somewhere.{Stands, stands}
use Rattle.sequences.proofs.SortedStrictly.{ascending_snoc}

pub numbers_none : [] ≡ numbers 0
unfolding numbers
numbers_none = refl

pub numbers_next : (n : ℕ) → numbers n ++ (n ∷ []) ≡ numbers (suc n)
unfolding numbers
numbers_next n = refl

pub numbers_length : (n : ℕ) → length (numbers n) ≡ n
unfolding numbers
numbers_length zero = refl
numbers_length (suc n) = omega (arith, length-append (numbers n) (n ∷ []), numbers_length n)

-- a test that passes at each number below n
pub numbers_all : (f : ℕ → Bool) (n : ℕ) → ((i : ℕ) → i < n → f i ≡ true) → all f (numbers n) ≡ true
unfolding numbers all
numbers_all f zero h = refl
numbers_all f (suc n) h =
    all_append f (numbers n) (n ∷ []) (numbers_all f n (λ i l. h i (omega arith))) (all_cons f n [] (h n (omega arith)) refl)

pub numbers_below : (n m : ℕ) → n ≤ m → Each (λ x. ltb x m ≡ true) (numbers n)
unfolding numbers
numbers_below zero m h = tt
numbers_below (suc n) m h =
    each_append (λ x. ltb x m ≡ true) (numbers n) (n ∷ []) (numbers_below n m (omega arith)) (lt-ltb n m (omega arith), tt)

pub numbers_rise : (n : ℕ) → Ascending ltb (numbers n)
unfolding numbers
numbers_rise zero = tt
numbers_rise (suc n) = ascending_snoc ltb (numbers n) n (numbers_rise n) (numbers_below n n (omega arith))

-- ---- the numbers that pass a test
pub kept_numbers_lem : (P : ℕ → Type 0) (f : ℕ → Bool) (n : ℕ) → Each P (keep f (numbers n)) → (i : ℕ) → i < n → f i ≡ true → P i
unfolding numbers keep
kept_numbers_lem P f zero e i h p = absurd (omega arith)
kept_numbers_lem P f (suc n) e i h p = go (three i n) (λ q k. kept_numbers_lem P f n q i k p)
  where
    whole : Each P (keep f (numbers n) ++ keep f (n ∷ []))
    whole = subst (Each P) (keep_append f (numbers n) (n ∷ [])) e

    go : Three i n → (Each P (keep f (numbers n)) → i < n → P i) → P i
    go (less k) ih = ih (each_left P (keep f (numbers n)) (keep f (n ∷ [])) whole) k
    go (same k) ih =
        subst P (sym k)
        (subst (Each P) (keep_yes f n [] (ap f (sym k) ∙ p)) (each_right P (keep f (numbers n)) (keep f (n ∷ [])) whole)).0
    go (more k) ih = absurd (omega arith)

-- each of them stands among those kept, and among those kept and sorted
pub keep_stands : (f : ℕ → Bool) (n i : ℕ) → i < n → f i ≡ true → Stands (keep f (numbers n)) i
keep_stands f n i h p = go (stands (keep f (numbers n)) i)
  where
    go : Stands (keep f (numbers n)) i ⊎ Each (λ x. x ≡ i → ⊥) (keep f (numbers n)) → Stands (keep f (numbers n)) i
    go (inl r) = r
    go (inr r) = absurd (kept_numbers_lem (λ x. x ≡ i → ⊥) f n r i h p refl)

pub kept_stands : (before : ℕ → ℕ → Bool) (f : ℕ → Bool) (n i : ℕ) → i < n → f i ≡ true → Stands (sort_by before (keep f (numbers n))) i
kept_stands before f n i h p = go (stands (sort_by before (keep f (numbers n))) i)
  where
    go : Stands (sort_by before (keep f (numbers n))) i ⊎ Each (λ x. x ≡ i → ⊥) (sort_by before (keep f (numbers n)))
        → Stands (sort_by before (keep f (numbers n))) i
    go (inl r) = r
    go (inr r) = absurd (kept_numbers_lem (λ x. x ≡ i → ⊥) f n (each_sorted (λ x. x ≡ i → ⊥) before (keep f (numbers n)) r) i h p refl)
