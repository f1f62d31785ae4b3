-- Counting the numbers below a bound that pass a test, and tests that pass at all of them.
use Prim.Native.Nat.{ℕ, zero, suc, ◌+◌, ◌≤◌, ◌<◌}
use native.Mathlib.Omega.{arith}
use native.Mathlib.Decide.{dec_lt}
use mathlib.Core.Path.{◌≡◌, refl, subst}
use mathlib.Core.Bool.{Bool, true, false, cond}
use Rattle.sequences.specs.Sequences.{all_below, count_below}
use Rattle.sequences.proofs.Booleans.{absurd_true, and_left, and_right, and_both}

module _ (f : ℕ → Bool) where
  pub count_le : (n : ℕ) → count_below f n ≤ n
  unfolding count_below
  count_le zero = omega arith
  count_le (suc n) = go (f n) (count_le n)
    where
      go : (b : Bool) → count_below f n ≤ n → cond b (count_below f n + 1) (count_below f n) ≤ suc n
      go true h = omega arith
      go false h = omega arith

  -- where the test passes at each, and where it is passed at none
  pub count_all : (n : ℕ) → ((i : ℕ) → i < n → f i ≡ true) → count_below f n ≡ n
  unfolding count_below
  count_all zero h = refl
  count_all (suc n) h = rw (h n (omega arith)) (let e = count_all n (λ i l. h i (omega arith)) in omega arith)

  pub all_at_lem : (n : ℕ) → all_below f n ≡ true → (i : ℕ) → i < n → f i ≡ true
  unfolding all_below
  all_at_lem zero e i l = absurd (omega arith)
  all_at_lem (suc n) e i l =
      elim (dec_lt i n) [
        | yes h ↦ all_at_lem n (and_left (all_below f n) (f n) e) i h
        | no h ↦ subst (λ j. f j ≡ true) (let p : n ≡ i = omega arith in p) (and_right (all_below f n) (f n) e)
      ]

  pub at_all : (n : ℕ) → ((i : ℕ) → i < n → f i ≡ true) → all_below f n ≡ true
  unfolding all_below
  at_all zero h = refl
  at_all (suc n) h = and_both (all_below f n) (f n) (at_all n (λ i l. h i (omega arith))) (h n (omega arith))

  -- one that fails below n
  pub fails_below : (n i : ℕ) → i < n → f i ≡ false → all_below f n ≡ false
  fails_below n i l e = go (all_below f n) refl
    where
      go : (b : Bool) → all_below f n ≡ b → all_below f n ≡ false
      go true p = absurd_true (all_at_lem n p i l) e
      go false p = p

-- a test that passes wherever another does counts no less
pub count_mono : (f g : ℕ → Bool) (n : ℕ) → ((i : ℕ) → i < n → f i ≡ true → g i ≡ true) → count_below f n ≤ count_below g n
unfolding count_below
count_mono f g zero h = omega arith
count_mono f g (suc n) h = go (f n) refl (g n) refl (count_mono f g n (λ i l. h i (omega arith)))
  where
    go : (a : Bool) → f n ≡ a → (b : Bool) → g n ≡ b → count_below f n ≤ count_below g n
        → cond a (count_below f n + 1) (count_below f n) ≤ cond b (count_below g n + 1) (count_below g n)
    go true p true q ih = omega arith
    go true p false q ih = absurd_true (h n (omega arith) p) q
    go false p true q ih = omega arith
    go false p false q ih = ih
