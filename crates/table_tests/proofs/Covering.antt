-- Numbers below n that n places have, no two the same: each number below n is one of them.
use Prim.Native.Nat.{ℕ, zero, suc, ◌+◌, ◌≤◌, ◌<◌}
use native.Mathlib.Omega.{arith}
use mathlib.Core.Path.{◌≡◌, refl, sym, ◌∙◌, ap, subst}
use mathlib.Core.Logic.{◌⊎◌, inl, inr, ⊎_elim}
use lib.Dec.{ltb}
use borrow.Author.Tests.{lt-ltb, le-ltb, ltb-true}
use Rattle.sequences.specs.Sequences.{count_below}
use Rattle.sequences.proofs.Counting.{count_mono, count_all}
use Rattle.sequences.proofs.Orders.{Three, less, same, more, three}

-- how many of the first places have a number below another
module _ (f : ℕ → ℕ) where
  unfoldable lower : ℕ → ℕ → ℕ
  lower n m = count_below (λ i. ltb (f i) m) n

  lower_none : (m : ℕ) → lower 0 m ≡ 0
  unfolding lower count_below
  lower_none m = refl

  lower_in : (n m : ℕ) → f n < m → lower (suc n) m ≡ lower n m + 1
  unfolding lower count_below
  lower_in n m h = rw (lt-ltb (f n) m h)

  lower_out : (n m : ℕ) → m ≤ f n → lower (suc n) m ≡ lower n m
  unfolding lower count_below
  lower_out n m h = rw (le-ltb (f n) m h)

  lower_all : (n m : ℕ) → ((i : ℕ) → i < n → f i < m) → lower n m ≡ n
  unfolding lower
  lower_all n m h = count_all (λ i. ltb (f i) m) n (λ i l. lt-ltb (f i) m (h i l))

  -- a number that none of them has adds none
  lower_missed : (n m : ℕ) → ((i : ℕ) → i < n → f i ≡ m → ⊥) → lower n (suc m) ≤ lower n m
  unfolding lower
  lower_missed n m h =
      count_mono (λ i. ltb (f i) (suc m)) (λ i. ltb (f i) m) n
      (λ i l e. let k = ltb-true (f i) (suc m) e in lt-ltb (f i) m (below i k (h i l)))
    where
      below : (i : ℕ) → f i < suc m → (f i ≡ m → ⊥) → f i < m
      below i k d = go (three (f i) m)
        where
          go : Three (f i) m → f i < m
          go (less x) = x
          go (same x) = absurd (d x)
          go (more x) = absurd (omega arith)

  -- and one that no two have adds one at most
  lower_next : (n m : ℕ) → ((i j : ℕ) → i < n → j < n → f i ≡ f j → i ≡ j) → lower n (suc m) ≤ lower n m + 1
  lower_next zero m d = let a = lower_none m in let b = lower_none (suc m) in omega arith
  lower_next (suc n) m d = go (lower_next n m (λ i j h k e. d i j (omega arith) (omega arith) e)) (three (f n) m)
    where
      go : lower n (suc m) ≤ lower n m + 1 → Three (f n) m → lower (suc n) (suc m) ≤ lower (suc n) m + 1
      go c (less h) = let a = lower_in n m h in let b = lower_in n (suc m) (omega arith) in omega arith
      go c (same h) =
          let a = lower_out n m (omega arith) in
          let b = lower_in n (suc m) (omega arith) in
          let k = lower_missed n m (λ i l e. let x = d i n (omega arith) (omega arith) (let y : f i ≡ f n = omega arith in y) in omega arith) in
          omega arith
      go c (more h) = let a = lower_out n m (omega arith) in let b = lower_out n (suc m) (omega arith) in omega arith

  -- a number that the places before one do not have, nor that one
  one_more_fact : (r k : ℕ) → ((i : ℕ) → i < k → f i ≡ r → ⊥) → (f k ≡ r → ⊥) → (i : ℕ) → i < suc k → f i ≡ r → ⊥
  one_more_fact r k rest here i l e = go (three i k)
    where
      go : Three i k → ⊥
      go (less h) = rest i h e
      go (same h) = here (ap f (sym h) ∙ e)
      go (more h) = omega arith

  module _ (n : ℕ) (within : (i : ℕ) → i < n → f i < n) (d : (i j : ℕ) → i < n → j < n → f i ≡ f j → i ≡ j) where
    lower_few : (m : ℕ) → lower n m ≤ m
    lower_few zero = let a = lower_least n in omega arith
      where
        lower_least : (k : ℕ) → lower k 0 ≡ 0
        lower_least zero = lower_none 0
        lower_least (suc k) = let a = lower_out k 0 (omega arith) in let b = lower_least k in omega arith
    lower_few (suc m) = let a = lower_few m in let b = lower_next n m d in omega arith

    -- where a number is missed there are fewer
    lower_fewer : (r : ℕ) → ((i : ℕ) → i < n → f i ≡ r → ⊥) → (m : ℕ) → r < m → lower n m + 1 ≤ m
    lower_fewer r h zero l = absurd (omega arith)
    lower_fewer r h (suc m) l = go (λ k. lower_fewer r h m k) (three r m)
      where
        go : (r < m → lower n m + 1 ≤ m) → Three r m → lower n (suc m) + 1 ≤ suc m
        go c (less k) = let a = c k in let b = lower_next n m d in omega arith
        go c (same k) =
            let a = lower_missed n m (λ i x e. h i x (let y : f i ≡ r = omega arith in y)) in
            let b = lower_few m in
            omega arith
        go c (more k) = absurd (omega arith)

    none_missed : (r : ℕ) → r < n → ((i : ℕ) → i < n → f i ≡ r → ⊥) → ⊥
    none_missed r l h = let a = lower_fewer r h n l in let b = lower_all n n within in omega arith

    module _ (P : ℕ → Type 0) (each : (i : ℕ) → i < n → P (f i)) where
      -- a look at the first places
      look : (r k : ℕ) → k ≤ n → P r ⊎ ((i : ℕ) → i < k → f i ≡ r → ⊥)
      look r zero h = inr (λ i l e. omega arith)
      look r (suc k) h = ⊎_elim inl (λ rest. go rest (three (f k) r)) (look r k (omega arith))
        where
          go : ((i : ℕ) → i < k → f i ≡ r → ⊥) → Three (f k) r → P r ⊎ ((i : ℕ) → i < suc k → f i ≡ r → ⊥)
          go rest (same e) = inl (subst P e (each k (omega arith)))
          go rest (less e) = inr (one_more_fact r k rest (λ y. omega arith))
          go rest (more e) = inr (one_more_fact r k rest (λ y. omega arith))

      pub each_covered : (r : ℕ) → r < n → P r
      each_covered r l = ⊎_elim (λ p. p) (λ h. absurd (none_missed r l h)) (look r n (omega arith))
