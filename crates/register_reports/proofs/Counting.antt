-- Counts from a place of a list on: with the next word, and at the end.
use Prim.Native.Nat.{ℕ, zero, suc, ◌+◌, ◌≤◌, ◌<◌}
use native.Mathlib.Omega.{arith}
use native.Mathlib.Numerals.{add-one}
use mathlib.Core.Path.{◌≡◌, refl, sym}
use mathlib.Core.Bool.{cond}
use mathlib.Core.List.{List, [], ◌∷◌}
use lib.Dec.{eqb}
use lib.ListN.{length, get_or, drop, drop_of_length-le, replicate}
use lib.Seq.{drop-cons}
use borrow.Author.Tests.{ne_eqb}
use Rattle.registers.specs.Registers.{register_count, registers_in, count_at}

module _ (v : ℕ) (xs : List ℕ) (i : ℕ) where
  pub count_end : length xs ≤ i → count_at v (drop i xs) ≡ 0
  unfolding count_at
  count_end h = rw (drop_of_length-le xs h)

  module _ (h : i < length xs) where
    pub count_step : count_at v (drop i xs) ≡ cond (eqb (get_or xs i 0) v) 1 0 + count_at v (drop (i + 1) xs)
    unfolding count_at
    count_step = rw (add-one, drop-cons xs i 0)

-- ---- of an empty list
pub no_registers : (ws : List ℕ) → length ws ≡ 0 → registers_in ws ≡ registers_in []
no_registers [] h = refl
no_registers (w ∷ ws) h = absurd (omega arith)

pub zeros_counted : count_at 0 (registers_in []) ≡ register_count
unfolding count_at
zeros_counted = refl

none_at : (v n : ℕ) → (v ≡ 0 → ⊥) → count_at v (replicate n 0) ≡ 0
unfolding count_at
none_at v zero h = refl
none_at v (suc n) h = rw (ne_eqb 0 v (λ e. h (sym e))) (omega (arith, none_at v n h))

pub none_counted : (v : ℕ) → (v ≡ 0 → ⊥) → count_at v (registers_in []) ≡ 0
none_counted v h = none_at v register_count h
