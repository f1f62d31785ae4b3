-- Different numbers below n are at most n; n of them are all the numbers below n.
use Prim.Native.Nat.{ℕ, zero, suc, ◌≤◌, ◌<◌}
use native.Mathlib.Omega.{arith}
use native.Mathlib.Decide.{dec_lt}
use mathlib.Core.Path.{◌≡◌, refl, sym, ◌∙◌, ap}
use mathlib.Core.Bool.{Bool, true, false, cond}
use mathlib.Core.Logic.{◌⊎◌, inl, inr, ⊎_elim}
use lib.Dec.{eqb}
use borrow.Author.Tests.{eqb-true, eqb-false}

-- f takes the numbers below m to numbers below n, and no two to one
pub record Injection (f : ℕ → ℕ) (m n : ℕ) : Type 0 where
  pub into : (i : ℕ) → i < m → f i < n
  pub once : (i j : ℕ) → i < m → j < m → f i ≡ f j → i ≡ j

-- f with another value at one argument, or in place of one value
abbrev at_argument : (ℕ → ℕ) → ℕ → ℕ → ℕ → ℕ
at_argument f n r i = cond (eqb i n) r (f i)

abbrev pub at_value : (ℕ → ℕ) → ℕ → ℕ → ℕ → ℕ
at_value f n r i = cond (eqb (f i) n) r (f i)

-- without the argument m and the value n, whose place the value at m takes
module _ (f : ℕ → ℕ) (m n : ℕ) (h : Injection f (suc m) (suc n)) where
  last_apart : (i : ℕ) → i < m → f m ≡ f i → ⊥
  last_apart i l e = let x = h.once m i (omega arith) (omega arith) e in omega arith

  fewer_into : (i : ℕ) → i < m → at_value f n (f m) i < n
  fewer_into i l = go (eqb (f i) n) refl
    where
      go : (b : Bool) → eqb (f i) n ≡ b → at_value f n (f m) i < n
      go true e =
          let p = eqb-true (f i) n e in
          let a : f m ≡ n → ⊥ = λ q. last_apart i l (q ∙ sym p) in
          let b = h.into m (omega arith) in
          rw e (omega arith)
      go false e =
          let a = eqb-false (f i) n e in
          let b = h.into i (omega arith) in
          rw e (omega arith)

  fewer_once : (i j : ℕ) → i < m → j < m → at_value f n (f m) i ≡ at_value f n (f m) j → i ≡ j
  fewer_once i j l k e = go (eqb (f i) n) refl (eqb (f j) n) refl
    where
      go : (a : Bool) → eqb (f i) n ≡ a → (b : Bool) → eqb (f j) n ≡ b → i ≡ j
      go true p true q = h.once i j (omega arith) (omega arith) (eqb-true (f i) n p ∙ sym (eqb-true (f j) n q))
      go true p false q = absurd (last_apart j k (rw (p, q) at e))
      go false p true q = absurd (last_apart i l (sym (rw (p, q) at e)))
      go false p false q = h.once i j (omega arith) (omega arith) (rw (p, q) at e)

  pub fewer : Injection (at_value f n (f m)) m n
  fewer = record { into = fewer_into; once = fewer_once }

pub pigeonhole : (f : ℕ → ℕ) (m n : ℕ) → Injection f m n → m ≤ n
pigeonhole f zero n h = omega arith
pigeonhole f (suc m) zero h = absurd (let x = h.into 0 (omega arith) in omega arith)
pigeonhole f (suc m) (suc n) h = let p = pigeonhole (at_value f n (f m)) m n (fewer f m n h) in omega arith

-- ---- all are hit
-- f takes some number below n to r
pub record Hit (f : ℕ → ℕ) (n r : ℕ) : Type 0 where
  pub from : ℕ
  pub below : from < n
  pub is : f from ≡ r

found : (f : ℕ → ℕ) (r n : ℕ) → Hit f n r ⊎ ((i : ℕ) → i < n → f i ≡ r → ⊥)
found f r zero = inr (λ i l e. omega arith)
found f r (suc n) = go (eqb (f n) r) refl (found f r n)
  where
    go : (b : Bool) → eqb (f n) r ≡ b → Hit f n r ⊎ ((i : ℕ) → i < n → f i ≡ r → ⊥)
        → Hit f (suc n) r ⊎ ((i : ℕ) → i < suc n → f i ≡ r → ⊥)
    go true e h = inl (record { from = n; below = omega arith; is = eqb-true (f n) r e })
    go false e (inl h) = let l = h.below in inl (record { from = h.from; below = omega arith; is = h.is })
    go false e (inr h) =
        inr
        (λ i l p.
        elim (dec_lt i n) [
          | yes k ↦ h i k p
          | no k ↦ eqb-false (f n) r e (ap f (let x : n ≡ i = omega arith in x) ∙ p)
        ])

-- one that is not hit would be a value more
module _ (f : ℕ → ℕ) (n r : ℕ) (h : Injection f n n) (l : r < n) (no_hit : (i : ℕ) → i < n → f i ≡ r → ⊥) where
  more_into : (i : ℕ) → i < suc n → at_argument f n r i < n
  more_into i k = go (eqb i n) refl
    where
      go : (b : Bool) → eqb i n ≡ b → at_argument f n r i < n
      go true e = rw e l
      go false e = let a = eqb-false i n e in rw e (h.into i (omega arith))

  more_once : (i j : ℕ) → i < suc n → j < suc n → at_argument f n r i ≡ at_argument f n r j → i ≡ j
  more_once i j k m e = go (eqb i n) refl (eqb j n) refl
    where
      go : (a : Bool) → eqb i n ≡ a → (b : Bool) → eqb j n ≡ b → i ≡ j
      go true p true q = eqb-true i n p ∙ sym (eqb-true j n q)
      go true p false q = let a = eqb-false j n q in absurd (no_hit j (omega arith) (sym (rw (p, q) at e)))
      go false p true q = let a = eqb-false i n p in absurd (no_hit i (omega arith) (rw (p, q) at e))
      go false p false q =
          let a = eqb-false i n p in
          let b = eqb-false j n q in
          h.once i j (omega arith) (omega arith) (rw (p, q) at e)

  too_many_lem : suc n ≤ n
  too_many_lem = pigeonhole (at_argument f n r) (suc n) n (record { into = more_into; once = more_once })

-- n different numbers below n are all of them
pub all_hit : (f : ℕ → ℕ) (n : ℕ) → Injection f n n → (r : ℕ) → r < n → Hit f n r
all_hit f n h r l = ⊎_elim (λ a. a) (λ none. absurd (let x = too_many_lem f n r h l none in omega arith)) (found f r n)
