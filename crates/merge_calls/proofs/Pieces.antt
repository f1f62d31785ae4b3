-- The ending of an accepted plan: its pieces are right.
use Prim.Native.Nat.{ℕ}
use mathlib.Core.Path.{◌≡◌}
use mathlib.Core.Bool.{Bool, true}
use mathlib.Core.Option.{none}
use mathlib.Core.List.{List}
use Rattle.sequences.specs.Sequences.{all}
use Rattle.words.specs.Tests.{first_failing}
use Rattle.sequences.proofs.Booleans.{and_right}
use Rattle.plans.specs.Branches.{branch_right, binds}
use Rattle.plans.specs.Endings.{Ending, rows, top, group, registers, ending_right}
use Rattle.plans.specs.Plans.{read_plan, plan_of, plan_tests}
use Rattle.plans.proofs.Bounds.{EndingForm, plan_form, was_read}
use Rattle.plan_tests.proofs.Checked.{accepted}
use Rattle.list_best.proofs.DeliveredBest.{top_parts}
use Rattle.merge_lists.specs.Answering.{PiecesRight}

pieces : (bound : ℕ → Bool) (e : Ending) → EndingForm e → ending_right bound e ≡ true → PiecesRight e
pieces bound (rows vs) f h = tt
pieces bound (top k vs keys) f h = top_parts bound k vs keys f h
pieces bound (group vs m) f h = f.most
pieces bound (registers v) f h = tt

pub pieces_right : (plan : List ℕ) → first_failing (plan_tests plan) ≡ none → PiecesRight (plan_of plan).ending
pieces_right plan h =
    let a = accepted plan h in
    let q = plan_of plan in
    pieces (binds q.branches) q.ending (plan_form plan q (was_read (read_plan plan) a.0)).ending
    (and_right (all branch_right q.branches) _ a.1)
