-- `plan_output` meets its contract: the number that refuses the plan, or the words that its ending asks for.
use mathlib.Core.Path.{sym, ◌∙◌}
use Rattle.calls.proofs.Refusals.{call_told}
use Rattle.plans.specs.Endings.{ending_at}
use Rattle.plan_tests.proofs.Checked.{check_passes, accepted}
use Rattle.list_limits.specs.PlanOutputs.{output_schema}
use Rattle.list_limits.proofs.Refusals.{output_is_right}
use Rattle.list_limits.proofs.Least.{output_refused, output_asked, call_refused, call_asked}
use Rattle.list_limits.proofs.sizes.plan_output.Goals as goal

pub returns-then-number-ne-ACCEPTED : goal.returns-then-number-ne-ACCEPTED
returns-then-number-ne-ACCEPTED c =
    let plan = c.args.plan.now in
    let n = c.check-number.result in
    let shown = call_told output_schema output_is_right _ (call_refused plan n c.check-number.ensures c.if-number-ne-ACCEPTED.true) in
    record { asked = output_refused plan n c.check-number.ensures c.if-number-ne-ACCEPTED.true; tt_value = shown.0; number = shown.1 }

pub ending_part-requires : goal.ending_part-requires
ending_part-requires c =
    (accepted c.args.plan.now (check_passes c.args.plan.now (sym c.check-number.ensures ∙ c.if-number-ne-ACCEPTED.false))).0

pub returns : goal.returns
returns c =
    let plan = c.args.plan.now in
    let n = c.check-number.result in
    let w = c.least_output.result in
    let x = ending_at c.ending_part.result.now in
    let shown = call_told output_schema output_is_right _
    (call_asked plan n c.check-number.ensures c.if-number-ne-ACCEPTED.false w x c.least_output.ensures c.ending_part.ensures.1) in
    record {
      asked = output_asked plan n c.check-number.ensures c.if-number-ne-ACCEPTED.false w x c.least_output.ensures c.ending_part.ensures.1;
      tt_value = shown.0;
      number = shown.1;
    }
