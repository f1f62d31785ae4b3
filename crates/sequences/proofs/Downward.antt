-- Counting a test that passes up to some number and not from it on: the count is that number.
use Prim.Native.Nat.{ℕ, zero, suc, ◌+◌, ◌≤◌, ◌<◌}
use native.Mathlib.Omega.{arith}
use native.Mathlib.Decide.{dec_lt}
use mathlib.Core.Path.{◌≡◌, refl, ◌∙◌, ap}
use mathlib.Core.Bool.{Bool, true, false, cond}
use Rattle.sequences.specs.Sequences.{count_below}
use Rattle.sequences.proofs.Booleans.{absurd_true}
use Rattle.sequences.proofs.Counting.{count_le, count_all}

-- below n, where it passes at a number it passes at each smaller one
module _ (f : ℕ → Bool) (n : ℕ) (down : (j i : ℕ) → j < i → i < n → f i ≡ true → f j ≡ true) where
  passes_upto : (m : ℕ) → m ≤ n → (i : ℕ) → i < m → f i ≡ true → i < count_below f m
  unfolding count_below
  passes_upto zero l i h e = absurd (omega arith)
  passes_upto (suc m) l i h e = go (f m) refl (λ k. passes_upto m (omega arith) i k e)
    where
      go : (b : Bool) → f m ≡ b → (i < m → i < count_below f m) → i < cond b (count_below f m + 1) (count_below f m)
      go true p ih = let c = count_all f m (λ j k. down j m k (omega arith) p) in omega arith
      go false p ih =
          elim (dec_lt i m) [
            | yes k ↦ ih k
            | no k ↦ absurd_true e (ap f (let x : i ≡ m = omega arith in x) ∙ p)
          ]

  fails_upto : (m : ℕ) → m ≤ n → (i : ℕ) → i < m → f i ≡ false → count_below f m ≤ i
  unfolding count_below
  fails_upto zero l i h e = absurd (omega arith)
  fails_upto (suc m) l i h e = go (f m) refl (λ k. fails_upto m (omega arith) i k e)
    where
      go : (b : Bool) → f m ≡ b → (i < m → count_below f m ≤ i) → cond b (count_below f m + 1) (count_below f m) ≤ i
      go true p ih =
          elim (dec_lt i m) [
            | yes k ↦ absurd_true (down i m k (omega arith) p) e
            | no k ↦ absurd_true p (ap f (let x : m ≡ i = omega arith in x) ∙ e)
          ]
      go false p ih = elim (dec_lt i m) [ yes k ↦ ih k | no k ↦ let c = count_le f m in omega arith ]

  -- a number that passes is below the count, and one that does not is not
  pub passes_below : (i : ℕ) → i < n → f i ≡ true → i < count_below f n
  passes_below = passes_upto n (omega arith)

  pub fails_from : (i : ℕ) → i < n → f i ≡ false → count_below f n ≤ i
  fails_from = fails_upto n (omega arith)
