-- `branch_condition` meets its contract.
use Rattle.plans.specs.Branches.{no_branch, read_branch}
use Rattle.plans.specs.Plans.{plan_of, branch_at}
use Rattle.plans.proofs.Given.{given_read, given_is}
use Rattle.plan_parts.proofs.branch_condition.Goals as goal

pub branch_part-requires : goal.branch_part-requires
branch_part-requires c = c.requires

pub condition_part-requires : goal.condition_part-requires
condition_part-requires c =
    let args = c.args in
    given_read (branch_at (plan_of args.plan.now) args.number) (read_branch c.branch_part.result.now) c.branch_part.ensures.branch

pub returns : goal.returns
returns c =
    let args = c.args in
    rw (given_is (branch_at (plan_of args.plan.now) args.number) no_branch (read_branch c.branch_part.result.now)
    c.branch_part.ensures.branch) at c.condition_part.ensures
