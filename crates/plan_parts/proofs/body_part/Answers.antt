-- `body_part` meets its contract: a plan that has the form has a head.
use mathlib.Core.Path.{ap, ◌∙◌}
use native.Mathlib.Omega.{arith}
use lib.ListN.{length, drop}
use Rattle.sequences.proofs.Walking.{rest_of}
use Rattle.plans.proofs.PlanRead.{plan_words_fact}
use Rattle.plan_parts.proofs.body_part.Goals as goal

pub slice_bounds-result-count : goal.slice_bounds-result-count
slice_bounds-result-count c =
    omega (arith, ap length c.from_head-part.ensures, plan_words_fact c.args.plan.now c.requires)

pub slice_bounds-result-start : goal.slice_bounds-result-start
slice_bounds-result-start c =
    omega (arith, ap length c.from_head-part.ensures, plan_words_fact c.args.plan.now c.requires)

pub returns : goal.returns
returns c = rest_of c.from_head-part.result.now 1 ∙ ap (drop 1) c.from_head-part.ensures
