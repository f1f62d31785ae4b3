-- `merge` meets its contract: the tests of the plan, the words given, and then the plan's ending.
use mathlib.Core.Path.{refl, sym, ◌∙◌, subst}
use Rattle.plan_tests.proofs.Checked.{check_passes, check_refuses, accepted}
use Rattle.merge_lists.specs.Answering.{PiecesRight}
use Rattle.calls.proofs.Refusals.{call_told}
use Rattle.merges.specs.Merging.{merge_schema}
use Rattle.merges.proofs.Refusals.{merge_is_right}
use Rattle.merge_endings.proofs.Tested.{plan_refused, given_long}
use Rattle.merge_calls.proofs.Pieces.{pieces_right}
use Rattle.merge_calls.proofs.merge.Goals as goal

pub returns-then-refused-ne0 : goal.returns-then-refused-ne0
returns-then-refused-ne0 c =
    let shown = call_told merge_schema merge_is_right _
    (plan_refused _ c.check-refused.result (check_refuses c.args.plan.now c.check-refused.result c.check-refused.ensures c.if-refused-ne0.true)) in
    record { kept_after = shown.0; number = shown.1 }

pub returns-then-kept-given : goal.returns-then-kept-given
returns-then-kept-given c = let passes = check_passes c.args.plan.now (sym c.check-refused.ensures ∙ c.if-refused-ne0.false) in
    let shown = call_told merge_schema merge_is_right _ (given_long _ (record { passes = passes; ending = refl }) c.if-kept-given.true) in
    record { kept_after = shown.0; number = shown.1 }

pub ending_part-requires : goal.ending_part-requires
ending_part-requires c =
    (accepted c.args.plan.now (check_passes c.args.plan.now (sym c.check-refused.ensures ∙ c.if-refused-ne0.false))).0

pub merge_ending-requires : goal.merge_ending-requires
merge_ending-requires c =
    let passes = check_passes c.args.plan.now (sym c.check-refused.ensures ∙ c.if-refused-ne0.false) in
    let e = c.ending_part.ensures in
    (e.0, subst PiecesRight (sym e.1) (pieces_right c.args.plan.now passes), c.if-kept-given.false)

pub returns : goal.returns
returns c = let passes = check_passes c.args.plan.now (sym c.check-refused.ensures
    ∙ c.if-refused-ne0.false) in
    let shown = call_told merge_schema merge_is_right _
    (c.merge_ending.ensures c.args.plan.now
    (record { passes = passes; ending = sym c.ending_part.ensures.1 })) in
    record { kept_after = shown.0; number = shown.1 }
