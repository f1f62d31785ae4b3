-- `patterns_read` meets its contract: what was read has a first word of the kind, with not too many patterns.
use mathlib.Core.Path.{refl, ◌∙◌}
use native.Mathlib.Omega.{arith}
use Rattle.plans.proofs.BranchRead.{branch_room, patterns_low}
use Rattle.plans.proofs.branches.patterns_read.Goals as goal

pub bounds-p-0 : goal.bounds-p-0
bounds-p-0 c =
    omega (arith, branch_room c.args.p.now c.requires _ refl)

pub returns : goal.returns
returns c =
    let p = patterns_low c.args.p.now c.requires in
    (c.wide.ensures ∙ c.low.ensures ∙ p.0, omega (arith, c.wide.ensures, c.low.ensures, p.1))
