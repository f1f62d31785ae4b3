-- What stands where in the words of an ending that has the form.
use Prim.Native.Nat.{ℕ, ◌+◌, ◌-◌}
use native.Mathlib.Omega.{arith}
use mathlib.Core.Path.{◌≡◌, refl}
use mathlib.Core.Bool.{true}
use mathlib.Core.List.{List, [], ◌∷◌}
use lib.ListN.{length, get_or, take, drop}
use Rattle.words.specs.Words.{low}
use Rattle.sequences.proofs.Booleans.{absurd_true}
use Rattle.sequences.proofs.Walking.{rest_of}
use Rattle.plans.specs.declared.EndingKind.{EndingKind}
use Rattle.plans.specs.declared.EndingKind.TheVariants.{Rows, Top, Group, Registers, Invalid}
use Rattle.plans.specs.Endings.{Ending, rows, top, group, registers, best_count, row_variables, after_rows, ending_kind_of, form_as}
use Rattle.plans.specs.Endings.{ending_form, ending_as, ending_at}
use Rattle.plans.specs.Reading.{ending_kind_in, variables_in, keys_in, best_in, measured_in}

module _ (ws : List ℕ) (t : EndingKind) (et : t ≡ ending_kind_of (get_or ws 0 0)) where
  pub ending_rows : t ≡ Rows → ending_at ws ≡ rows (row_variables ws)
  unfolding ending_as
  ending_rows e = rw (← et, e)

  -- the kind 8 part and the keys as they are lent
  pub ending_top : t ≡ Top
      → ending_at ws
      ≡ top (best_count (low (get_or ws 0 0))) (row_variables (take (length ws - 1) (drop 1 ws))) (after_rows (take (length ws - 1) (drop 1 ws)))
  unfolding ending_as
  ending_top e = rw (← et, e, rest_of)

  pub ending_group : t ≡ Group → (n : ℕ) → n ≡ low (get_or ws 0 0)
      → ending_at ws ≡ group (take (1 + n - 1) (drop 1 ws)) (get_or ws (1 + n) 0)
  unfolding ending_as
  ending_group e n en = let h : 1 + n - 1 ≡ n = omega arith in rw (← et, e, h, en)

  pub ending_registers : t ≡ Registers → ending_at ws ≡ registers (get_or ws 1 0)
  unfolding ending_as
  ending_registers e = rw (← et, e)

-- the one variable as it is lent
pub counted_lent : (ws : List ℕ) → length ws ≡ 2 → take (length ws - 1) (drop 1 ws) ≡ get_or ws 1 0 ∷ []
counted_lent [] h = absurd (omega arith)
counted_lent (x ∷ []) h = absurd (omega arith)
counted_lent (x ∷ y ∷ []) h = refl
counted_lent (x ∷ y ∷ z ∷ ws) h = absurd (omega arith)

-- ---- the kind of an ending
pub some_kind : (e : Ending) → ending_kind_in e ≡ Invalid → ⊥
some_kind (rows vs) h = let z : ◌≡◌ {A = ℕ} 0 1 = cc in omega arith
some_kind (top k vs keys) h = let z : ◌≡◌ {A = ℕ} 0 1 = cc in omega arith
some_kind (group vs m) h = let z : ◌≡◌ {A = ℕ} 0 1 = cc in omega arith
some_kind (registers v) h = let z : ◌≡◌ {A = ℕ} 0 1 = cc in omega arith

last_as : (t : EndingKind) (ws : List ℕ) → form_as t ws ≡ true → ending_kind_in (ending_as t ws) ≡ t
unfolding form_as ending_as
last_as Rows ws h = refl
last_as Top ws h = refl
last_as Group ws h = refl
last_as Registers ws h = refl
last_as Invalid ws h = absurd_true h refl

pub last_in_lem : (ws : List ℕ) → ending_form ws ≡ true → ending_kind_in (ending_at ws) ≡ ending_kind_of (get_or ws 0 0)
last_in_lem ws h = last_as (ending_kind_of (get_or ws 0 0)) ws h

-- an ending is made of its pieces
pub is_rows_lem : (e : Ending) → ending_kind_in e ≡ Rows → e ≡ rows (variables_in e)
is_rows_lem (rows vs) h = refl
is_rows_lem (top k vs keys) h = cc
is_rows_lem (group vs m) h = cc
is_rows_lem (registers v) h = cc

pub is_top : (e : Ending) → ending_kind_in e ≡ Top → e ≡ top (best_in e) (variables_in e) (keys_in e)
is_top (rows vs) h = cc
is_top (top k vs keys) h = refl
is_top (group vs m) h = cc
is_top (registers v) h = cc

pub is_group : (e : Ending) → ending_kind_in e ≡ Group → e ≡ group (variables_in e) (measured_in e)
is_group (rows vs) h = cc
is_group (top k vs keys) h = cc
is_group (group vs m) h = refl
is_group (registers v) h = cc

pub is_registers : (e : Ending) → ending_kind_in e ≡ Registers → e ≡ registers (measured_in e)
is_registers (rows vs) h = cc
is_registers (top k vs keys) h = cc
is_registers (group vs m) h = cc
is_registers (registers v) h = refl
