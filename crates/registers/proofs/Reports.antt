-- The counts of a report make 16.
use Prim.Native.Nat.{ℕ, zero, suc, ◌+◌}
use native.Mathlib.Omega.{arith}
use mathlib.Core.Path.{◌≡◌, refl, ◌∙◌, ap}
use mathlib.Core.Bool.{Bool, true, false, cond, ◌||◌}
use mathlib.Core.List.{List, [], ◌∷◌, ◌++◌, map}
use lib.Dec.{eqb, ltb}
use lib.ListN.{length, replicate, length-map}
use borrow.Author.Tests.{leb-true, eqb-true, eqb-false, ltb-true, ltb-false, lt-ltb}
use Rattle.sequences.specs.Sequences.{all, numbers}
use Rattle.sequences.proofs.Numbers.{numbers_length}
use Rattle.sequences.proofs.Booleans.{and_left, and_right}
use Rattle.registers.specs.Registers.{register_count, most_rank, registers_in, is_rank, are_registers, kept_registers, count_at, report_on, total}

-- ---- totals over the numbers below n
total_last : (f : ℕ → ℕ) (vs : List ℕ) (n : ℕ) → total (map f (vs ++ (n ∷ []))) ≡ total (map f vs) + f n
unfolding total
total_last f [] n = omega arith
total_last f (v ∷ vs) n = omega (arith, total_last f vs n)

total_plus : (f g : ℕ → ℕ) (vs : List ℕ) → total (map (λ v. f v + g v) vs) ≡ total (map f vs) + total (map g vs)
unfolding total
total_plus f g [] = refl
total_plus f g (v ∷ vs) = omega (arith, total_plus f g vs)

-- a register is counted at one of the values that it may have
one_at : (x n : ℕ) → total (map (λ v. cond (eqb x v) 1 0) (numbers n)) ≡ cond (ltb x n) 1 0
unfolding numbers total
one_at x zero = go (ltb x 0) refl
  where
    go : (b : Bool) → ltb x 0 ≡ b → ◌≡◌ {A = ℕ} 0 (cond b 1 0)
    go true p = absurd (omega (arith, ltb-true x 0 p))
    go false p = refl
one_at x (suc n) =
    total_last (λ v. cond (eqb x v) 1 0) (numbers n) n ∙ ap (λ r. r + cond (eqb x n) 1 0) (one_at x n)
    ∙ go (ltb x n) refl (eqb x n) refl (ltb x (suc n)) refl
  where
    go : (a : Bool) → ltb x n ≡ a → (e : Bool) → eqb x n ≡ e → (b : Bool) → ltb x (suc n) ≡ b
        → ◌≡◌ {A = ℕ} (cond a 1 0 + cond e 1 0) (cond b 1 0)
    go true p true q b r = absurd (omega (arith, ltb-true x n p, eqb-true x n q))
    go true p false q true r = refl
    go true p false q false r = absurd (omega (arith, ltb-true x n p, ltb-false x (suc n) r))
    go false p true q true r = refl
    go false p true q false r = absurd (omega (arith, eqb-true x n q, ltb-false x (suc n) r))
    go false p false q true r = absurd (omega (arith, ltb-false x n p, eqb-false x n q, ltb-true x (suc n) r))
    go false p false q false r = refl

none_counted : (vs : List ℕ) → total (map (λ v. count_at v []) vs) ≡ 0
unfolding total count_at
none_counted [] = refl
none_counted (v ∷ vs) = omega (arith, none_counted vs)

pub counts_make : (ws : List ℕ) → all is_rank ws ≡ true → total (map (λ v. count_at v ws) (numbers (suc most_rank))) ≡ length ws
unfolding count_at all
counts_make [] h = none_counted (numbers (suc most_rank))
counts_make (x ∷ xs) h =
    let l = leb-true x most_rank (and_left (is_rank x) (all is_rank xs) h) in
    let ih = counts_make xs (and_right (is_rank x) (all is_rank xs) h) in
    let o = one_at x (suc most_rank) ∙ ap (λ b. cond b 1 0) (lt-ltb x (suc most_rank) (omega arith)) in
    total_plus (λ v. cond (eqb x v) 1 0) (λ v. count_at v xs) (numbers (suc most_rank)) ∙ omega (arith, o, ih)

-- ---- a report on a kept list that passes test 12
pub report_length : (ws : List ℕ) → length (report_on ws) ≡ suc most_rank
unfolding report_on
report_length ws = length-map (numbers (suc most_rank)) (λ v. count_at v (registers_in ws)) ∙ numbers_length (suc most_rank)

none_right : all is_rank (replicate register_count 0) ≡ true
unfolding all
none_right = refl

-- a list of some words is right only as 16 registers
pub some_right : (w : ℕ) (ws : List ℕ) → kept_registers (w ∷ ws) ≡ true → are_registers (w ∷ ws) ≡ true
some_right w ws h = go (eqb (length (w ∷ ws)) 0) refl h
  where
    go : (b : Bool) → eqb (length (w ∷ ws)) 0 ≡ b → b || are_registers (w ∷ ws) ≡ true → are_registers (w ∷ ws) ≡ true
    go true p e = absurd (omega (arith, eqb-true (length (w ∷ ws)) 0 p))
    go false p e = e

pub report_makes : (ws : List ℕ) → kept_registers ws ≡ true → total (report_on ws) ≡ register_count
unfolding report_on
report_makes [] h = counts_make (replicate register_count 0) none_right
report_makes (w ∷ ws) h =
    let r = some_right w ws h in
    let n = eqb-true (length (w ∷ ws)) register_count (and_left (eqb (length (w ∷ ws)) register_count) (all is_rank (w ∷ ws)) r) in
    counts_make (w ∷ ws) (and_right (eqb (length (w ∷ ws)) register_count) (all is_rank (w ∷ ws)) r) ∙ n
