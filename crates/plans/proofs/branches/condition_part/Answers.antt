-- `condition_part` meets its contract: the condition stands behind the terms.
use native.Mathlib.Omega.{arith}
use Rattle.plans.proofs.BranchRead.{branch_room, condition_in_lem}
use Rattle.plans.proofs.branches.condition_part.Goals as goal

pub slice_bounds-result-count : goal.slice_bounds-result-count
slice_bounds-result-count c =
    let args = c.args in
    let pre = c.requires in
    omega (arith, branch_room args.p.now pre c.patterns_read.result c.patterns_read.ensures.0)

pub slice_bounds-result-start : goal.slice_bounds-result-start
slice_bounds-result-start c =
    let args = c.args in
    let pre = c.requires in
    omega (arith, branch_room args.p.now pre c.patterns_read.result c.patterns_read.ensures.0)

pub returns : goal.returns
returns c =
    let args = c.args in
    let pre = c.requires in
    condition_in_lem args.p.now pre c.patterns_read.result c.patterns_read.ensures.0
