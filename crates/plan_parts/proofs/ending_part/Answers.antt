-- `ending_part` meets its contract: the ending starts behind the last branch.
use mathlib.Core.Path.{◌∙◌}
use native.Mathlib.Omega.{arith}
use Rattle.plans.proofs.PlanRead.{plan_in_lem, body_read, part_room, part_from}
use Rattle.plan_parts.proofs.ending_part.Goals as goal

pub body_part-body-requires : goal.body_part-body-requires
body_part-body-requires c = c.requires

pub branches_words-at-requires : goal.branches_words-at-requires
branches_words-at-requires c =
    let args = c.args in
    let pre = c.requires in
    let few = (plan_in_lem args.plan.now pre).head in
    body_read args.plan.now pre c.branch_count.result (omega (arith, c.branch_count.ensures.0, few)) c.body_part-body.result.now c.body_part-body.ensures

pub offset_bounds-body-at : goal.offset_bounds-body-at
offset_bounds-body-at c =
    let args = c.args in
    let pre = c.requires in
    let few = (plan_in_lem args.plan.now pre).head in
    omega (
      arith,
      part_room args.plan.now pre c.branch_count.result
          (omega (arith, c.branch_count.ensures.0, few)) c.body_part-body.result.now c.body_part-body.ensures c.branches_words-at.result
          c.branches_words-at.ensures,
    )

pub slice_bounds-result-count : goal.slice_bounds-result-count
slice_bounds-result-count c =
    let args = c.args in
    let pre = c.requires in
    let few = (plan_in_lem args.plan.now pre).head in
    omega (
      arith,
      part_room args.plan.now pre c.branch_count.result
          (omega (arith, c.branch_count.ensures.0, few)) c.body_part-body.result.now c.body_part-body.ensures c.branches_words-at.result
          c.branches_words-at.ensures,
    )

pub slice_bounds-result-start : goal.slice_bounds-result-start
slice_bounds-result-start c =
    let args = c.args in
    let pre = c.requires in
    let few = (plan_in_lem args.plan.now pre).head in
    omega (
      arith,
      part_room args.plan.now pre c.branch_count.result
          (omega (arith, c.branch_count.ensures.0, few)) c.body_part-body.result.now c.body_part-body.ensures c.branches_words-at.result
          c.branches_words-at.ensures,
    )

pub returns : goal.returns
returns c =
    let args = c.args in
    let pre = c.requires in
    let q = plan_in_lem args.plan.now pre in
    let l = c.branch_count.ensures.0 ∙ q.head in
    let e = part_from args.plan.now pre c.branch_count.result
    (omega arith) c.body_part-body.result.now c.body_part-body.ensures c.branches_words-at.result c.branches_words-at.ensures in
    (rw (e, l) q.form, rw (e, l) q.ending)
