-- `branch_part` meets its contract: the branch with a number starts behind those before it.
use native.Mathlib.Omega.{arith}
use Rattle.plans.proofs.PlanRead.{plan_in_lem, body_read, part_room, part_from}
use Rattle.plan_parts.proofs.branch_part.Goals as goal

pub body_part-body-requires : goal.body_part-body-requires
body_part-body-requires c = c.requires.0

pub branches_words-at-requires : goal.branches_words-at-requires
branches_words-at-requires c =
    let args = c.args in
    let pre = c.requires in
    body_read args.plan.now pre.0 args.number (omega arith) c.body_part-body.result.now c.body_part-body.ensures

pub offset_bounds-body-at : goal.offset_bounds-body-at
offset_bounds-body-at c =
    let args = c.args in
    let pre = c.requires in
    omega (
      arith,
      part_room args.plan.now pre.0 args.number
          (omega arith) c.body_part-body.result.now c.body_part-body.ensures c.branches_words-at.result c.branches_words-at.ensures,
    )

pub slice_bounds-result-count : goal.slice_bounds-result-count
slice_bounds-result-count c =
    let args = c.args in
    let pre = c.requires in
    omega (
      arith,
      part_room args.plan.now pre.0 args.number
          (omega arith) c.body_part-body.result.now c.body_part-body.ensures c.branches_words-at.result c.branches_words-at.ensures,
    )

pub slice_bounds-result-start : goal.slice_bounds-result-start
slice_bounds-result-start c =
    let args = c.args in
    let pre = c.requires in
    omega (
      arith,
      part_room args.plan.now pre.0 args.number
          (omega arith) c.body_part-body.result.now c.body_part-body.ensures c.branches_words-at.result c.branches_words-at.ensures,
    )

pub returns : goal.returns
returns c = let args = c.args in
    let pre = c.requires in
    let ws = args.plan.now in
    let e = part_from ws pre.0 args.number
    (omega arith) c.body_part-body.result.now c.body_part-body.ensures c.branches_words-at.result c.branches_words-at.ensures in
    record { start = e; branch = rw e ((plan_in_lem ws pre.0).branch args.number (omega arith)) }
