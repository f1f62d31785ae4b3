-- `always` meets its contract: where the first word is that node, the condition is it.
use native.Mathlib.Omega.{arith}
use Rattle.conditions.proofs.Evaluating.{begins_at, starts_inside, is_always}
use Rattle.condition_values.proofs.always.Goals as goal

pub bounds-p-0 : goal.bounds-p-0
bounds-p-0 c = omega (arith, starts_inside c.args.p.now 0 c.requires)

pub returns-in-Always : goal.returns-in-Always
returns-in-Always c = λ e.
    let p = c.args.p.now in
    is_always p 0 (begins_at p 0 (starts_inside p 0 c.requires) c.node_of.ensures) c.requires c.in-Always.is
