-- `check` meets its contract: a plan that is too long or has no head, and then the body.
use mathlib.Core.Path.{refl, sym, ◌∙◌, ap}
use native.Mathlib.Omega.{arith}
use lib.ListN.{length}
use Rattle.plans.specs.Years.{from_head}
use Rattle.plans.proofs.PlanRead.{some_words}
use Rattle.plan_tests.proofs.Checked.{check_long, check_headless, check_with}
use Rattle.plan_tests.proofs.check.Goals as goal

pub returns-then-plan-gt-MOST_WORDS : goal.returns-then-plan-gt-MOST_WORDS
returns-then-plan-gt-MOST_WORDS c =
    let args = c.args in
    sym (check_long args.plan.now c.if-plan-gt-MOST_WORDS.true)

pub returns-then-count-eq0 : goal.returns-then-count-eq0
returns-then-count-eq0 c =
    let args = c.args in
    sym (check_headless args.plan.now c.branch_count-count.result c.branch_count-count.ensures.0 c.if-count-eq0.true)

pub slice_bounds-check_body-count : goal.slice_bounds-check_body-count
slice_bounds-check_body-count c =
    let args = c.args in
    omega (
      arith,
      ap length c.from_head-part.ensures,
      some_words (from_head args.plan.now) c.branch_count-count.result c.branch_count-count.ensures.0 c.if-count-eq0.false,
    )

pub slice_bounds-check_body-start : goal.slice_bounds-check_body-start
slice_bounds-check_body-start c =
    let args = c.args in
    omega (
      arith,
      ap length c.from_head-part.ensures,
      some_words (from_head args.plan.now) c.branch_count-count.result c.branch_count-count.ensures.0 c.if-count-eq0.false,
    )

pub returns : goal.returns
returns c =
    let args = c.args in
    c.check_body.ensures ∙ sym (check_with args.plan.now c.branch_count-count.result c.branch_count-count.ensures.0 c.if-count-eq0.false
    c.if-plan-gt-MOST_WORDS.false c.years_in.result c.years_in.ensures c.from_head-part.result.now
    c.from_head-part.ensures _ refl)
