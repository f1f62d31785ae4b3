-- `no_threshold` meets its contract: only no threshold is right.
use Prim.Native.Nat.{ℕ}
use native.Mathlib.Omega.{arith}
use mathlib.Core.Path.{◌≡◌, refl, ◌∙◌}
use mathlib.Core.List.{List, [], ◌∷◌}
use lib.Dec.{eqb}
use lib.ListN.{length}
use borrow.Author.Tests.{ne_eqb}
use Rattle.plans.specs.Endings.{rows, group, registers}
use Rattle.lists.specs.Gathering.{threshold_right}
use Rattle.list_rows.proofs.tests.no_threshold.Goals as goal

no_rows_threshold : (vs threshold : List ℕ) → eqb (length threshold) 0 ≡ threshold_right (rows vs) threshold
unfolding threshold_right
no_rows_threshold vs [] = refl
no_rows_threshold vs (w ∷ ws) = ne_eqb (length (w ∷ ws)) 0 (λ e. omega (arith, e))

no_group_threshold : (vs : List ℕ) (m : ℕ) (threshold : List ℕ)
    → eqb (length threshold) 0 ≡ threshold_right (group vs m) threshold
unfolding threshold_right
no_group_threshold vs m [] = refl
no_group_threshold vs m (w ∷ ws) = ne_eqb (length (w ∷ ws)) 0 (λ e. omega (arith, e))

no_registers_threshold : (v : ℕ) (threshold : List ℕ) → eqb (length threshold) 0 ≡ threshold_right (registers v) threshold
unfolding threshold_right
no_registers_threshold v [] = refl
no_registers_threshold v (w ∷ ws) = ne_eqb (length (w ∷ ws)) 0 (λ e. omega (arith, e))

pub returns : goal.returns
returns c = record {
  rows = λ vs. c.is_empty.ensures ∙ no_rows_threshold vs c.args.threshold.now;
  groups = λ vs m. c.is_empty.ensures ∙ no_group_threshold vs m c.args.threshold.now;
  registers = λ v. c.is_empty.ensures ∙ no_registers_threshold v c.args.threshold.now;
}
