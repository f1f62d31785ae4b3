-- `branch_terms` meets its contract.
use mathlib.Core.Path.{ap, ◌∙◌}
use Rattle.plans.specs.Branches.{Branch, no_branch, read_branch}
use Rattle.plans.specs.Plans.{plan_of, branch_at}
use Rattle.plans.proofs.Given.{given_read, given_is}
use Rattle.plan_parts.proofs.branch_terms.Goals as goal

pub branch_part-requires : goal.branch_part-requires
branch_part-requires c = c.requires

pub terms-requires : goal.terms-requires
terms-requires c =
    let args = c.args in
    given_read (branch_at (plan_of args.plan.now) args.number) (read_branch c.branch_part.result.now) c.branch_part.ensures.branch

pub returns : goal.returns
returns c =
    let args = c.args in
    c.terms.ensures ∙ ap (λ (b : Branch). b.terms) (given_is (branch_at (plan_of args.plan.now) args.number) no_branch
    (read_branch c.branch_part.result.now) c.branch_part.ensures.branch)
