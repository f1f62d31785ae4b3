-- A permutation of the numbers below n leaves every count as it is.
use Prim.Native.Nat.{ℕ, zero, suc, ◌+◌, ◌≤◌, ◌<◌}
use native.Mathlib.Omega.{arith}
use native.Mathlib.Decide.{dec_lt}
use mathlib.Core.Path.{◌≡◌, refl, sym, ◌∙◌, ap}
use mathlib.Core.Bool.{Bool, true, false, cond}
use borrow.Author.Tests.{eq-eqb, ne_eqb}
use Rattle.sequences.specs.Sequences.{count_below}
use Rattle.sequences.proofs.Pigeonhole.{Injection, Hit, all_hit, at_value, fewer}

-- one more where a test passes
abbrev one : Bool → ℕ
one b = cond b 1 0

count_suc : (f : ℕ → Bool) (n : ℕ) → count_below f (suc n) ≡ count_below f n + one (f n)
unfolding count_below
count_suc f n = go (f n)
  where
    go : (b : Bool) → cond b (count_below f n + 1) (count_below f n) ≡ count_below f n + one b
    go true = refl
    go false = omega arith

-- tests that agree below n count the same
pub count_same : (f g : ℕ → Bool) (n : ℕ) → ((i : ℕ) → i < n → f i ≡ g i) → count_below f n ≡ count_below g n
unfolding count_below
count_same f g zero h = refl
count_same f g (suc n) h =
    let e = count_same f g n (λ i l. h i (omega arith)) in
    let p = ap one (h n (omega arith)) in
    omega (arith, count_suc f n, count_suc g n)

-- where f has the value m, it gets the one at m
module _ (g : ℕ → Bool) (f : ℕ → ℕ) (m : ℕ) (h : Injection f (suc m) (suc m)) where
  abbrev moved : ℕ → ℕ
  moved = at_value f m (f m)

  kept : (i : ℕ) → (f i ≡ m → ⊥) → g (f i) ≡ g (moved i)
  kept i a = rw (ne_eqb (f i) m a)

  -- before the place of m, and from it on
  before_hit : (k n : ℕ) → k < suc m → f k ≡ m → n ≤ k → count_below (λ i. g (f i)) n ≡ count_below (λ i. g (moved i)) n
  before_hit k n l e b =
      count_same (λ i. g (f i)) (λ i. g (moved i)) n
      (λ i j. kept i (λ q. let x = h.once i k (omega arith) l (q ∙ sym e) in omega arith))

  from_hit : (k : ℕ) → k < m → f k ≡ m → (n : ℕ) → k < n → n ≤ m
      → one (g (f m)) + count_below (λ i. g (f i)) n ≡ one (g m) + count_below (λ i. g (moved i)) n
  from_hit k l e zero a b = absurd (omega arith)
  from_hit k l e (suc n) a b =
      elim (dec_lt k n) [
        | yes j ↦
            let ih = from_hit k l e n j (omega arith) in
            let s = ap one (kept n (λ q. let x = h.once n k (omega arith) (omega arith) (q ∙ sym e) in omega arith)) in
            omega (arith, count_suc (λ i. g (f i)) n, count_suc (λ i. g (moved i)) n)
        | no j ↦
            let x : k ≡ n = omega arith in
            let c = before_hit k n (omega arith) e (omega arith) in
            let e₁ : f n ≡ m = ap f (sym x) ∙ e in
            let p : one (g (f n)) ≡ one (g m) = ap (λ r. one (g r)) e₁ in
            let q : one (g (moved n)) ≡ one (g (f m)) = rw (eq-eqb (f n) m e₁) in
            omega (arith, count_suc (λ i. g (f i)) n, count_suc (λ i. g (moved i)) n)
      ]

pub count_permuted : (g : ℕ → Bool) (f : ℕ → ℕ) (n : ℕ) → Injection f n n → count_below (λ i. g (f i)) n ≡ count_below g n
unfolding count_below
count_permuted g f zero h = refl
count_permuted g f (suc m) h = go (all_hit f (suc m) h m (omega arith)) (count_permuted g (at_value f m (f m)) m (fewer f m m h))
  where
    go : Hit f (suc m) m → count_below (λ i. g (at_value f m (f m) i)) m ≡ count_below g m
        → count_below (λ i. g (f i)) (suc m) ≡ count_below g (suc m)
    go k ih =
        elim (dec_lt k.from m) [
          | yes j ↦
              let c = from_hit g f m h k.from j k.is m j (omega arith) in
              omega (arith, count_suc (λ i. g (f i)) m, count_suc g m)
          | no j ↦
              let x : k.from ≡ m = (let b = k.below in omega arith) in
              let e : f m ≡ m = ap f (sym x) ∙ k.is in
              let c = before_hit g f m h m m (omega arith) e (omega arith) in
              let p : one (g (f m)) ≡ one (g m) = ap (λ r. one (g r)) e in
              omega (arith, count_suc (λ i. g (f i)) m, count_suc g m)
        ]
