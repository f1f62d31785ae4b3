-- `row_variables` meets its contract: the variables stand behind the first word.
use native.Mathlib.Omega.{arith}
use Rattle.plans.proofs.EndingForms.{rows_room, rows_variables}
use Rattle.plan_endings.proofs.parts.row_variables.Goals as goal

pub slice_bounds-result-end : goal.slice_bounds-result-end
slice_bounds-result-end c =
    let args = c.args in
    let pre = c.requires in
    omega (arith, rows_room args.p.now c.row_width-end.result c.row_width-end.ensures.0 pre)

pub returns : goal.returns
returns c =
    let args = c.args in
    rows_variables args.p.now c.row_width-end.result c.row_width-end.ensures.0
