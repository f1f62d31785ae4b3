-- `terms` meets its contract: the terms stand between the first word and the condition.
use native.Mathlib.Omega.{arith}
use Rattle.plans.proofs.BranchRead.{branch_room, terms_in}
use Rattle.plans.proofs.branches.terms.Goals as goal

pub slice_bounds-result-end : goal.slice_bounds-result-end
slice_bounds-result-end c =
    let args = c.args in
    let pre = c.requires in
    omega (arith, branch_room args.p.now pre c.patterns_read.result c.patterns_read.ensures.0)

pub returns : goal.returns
returns c =
    let args = c.args in
    let pre = c.requires in
    terms_in args.p.now pre c.patterns_read.result c.patterns_read.ensures.0
