-- `after_rows` meets its contract: what is left stands behind the variables.
use native.Mathlib.Omega.{arith}
use Rattle.plans.proofs.EndingForms.{rows_room, rows_after}
use Rattle.plan_endings.proofs.parts.after_rows.Goals as goal

pub slice_bounds-result-count : goal.slice_bounds-result-count
slice_bounds-result-count c =
    let args = c.args in
    let pre = c.requires in
    omega (arith, rows_room args.p.now c.row_width-end.result c.row_width-end.ensures.0 pre)

pub slice_bounds-result-start : goal.slice_bounds-result-start
slice_bounds-result-start c =
    let args = c.args in
    let pre = c.requires in
    omega (arith, rows_room args.p.now c.row_width-end.result c.row_width-end.ensures.0 pre)

pub returns : goal.returns
returns c =
    let args = c.args in
    rows_after args.p.now c.row_width-end.result c.row_width-end.ensures.0
