-- Test 11 of a threshold, by the ending's kind.
use Prim.Native.Nat.{ℕ}
use mathlib.Core.Path.{◌≡◌, sym, ◌∙◌, ap}
use mathlib.Core.Bool.{Bool}
use mathlib.Core.List.{List}
use Rattle.plans.specs.declared.EndingKind.TheVariants.{Rows, Top, Group, Registers}
use Rattle.plans.specs.Endings.{Ending, rows, top, group, registers}
use Rattle.plans.specs.Reading.{ending_kind_in, variables_in, keys_in, best_in, measured_in}
use Rattle.lists.specs.Gathering.{threshold_right}
use Rattle.plans.proofs.EndingRead.{is_rows_lem, is_top, is_group, is_registers}

module _ (e : Ending) (threshold : List ℕ) (r : Bool) where
  pub threshold_rows : ending_kind_in e ≡ Rows → ((vs : List ℕ) → r ≡ threshold_right (rows vs) threshold) → r ≡ threshold_right e threshold
  threshold_rows h f = f (variables_in e) ∙ ap (λ (x : Ending). threshold_right x threshold) (sym (is_rows_lem e h))

  pub threshold_top : (vs : List ℕ) → vs ≡ variables_in e → ending_kind_in e ≡ Top
      → ((k : ℕ) (keys : List ℕ) → r ≡ threshold_right (top k vs keys) threshold) → r ≡ threshold_right e threshold
  threshold_top vs ev h f =
      f (best_in e) (keys_in e) ∙ ap (λ (x : Ending). threshold_right x threshold) (rw ev (sym (is_top e h)))

  pub threshold_group : ending_kind_in e ≡ Group → ((vs : List ℕ) (m : ℕ) → r ≡ threshold_right (group vs m) threshold)
      → r ≡ threshold_right e threshold
  threshold_group h f =
      f (variables_in e) (measured_in e) ∙ ap (λ (x : Ending). threshold_right x threshold) (sym (is_group e h))

  pub threshold_registers : ending_kind_in e ≡ Registers → ((v : ℕ) → r ≡ threshold_right (registers v) threshold) → r ≡ threshold_right e threshold
  threshold_registers h f = f (measured_in e) ∙ ap (λ (x : Ending). threshold_right x threshold) (sym (is_registers e h))
