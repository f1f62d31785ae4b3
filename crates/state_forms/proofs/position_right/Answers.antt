-- `state_saving::position_right` meets its contract.
use mathlib.Core.Path.{sym, ap, ap₂, ◌∙◌}
use native.Mathlib.Omega.{arith}
use Rattle.plans.specs.Branches.{Branch, no_branch}
use Rattle.plans.specs.Plans.{Plan, plan_of, branch_at}
use Rattle.plans.proofs.Given.{given_read, given_is}
use Rattle.plans.proofs.PlanRead.{plan_in_lem}
use Rattle.steps.specs.Saved.{depth_right}
use Rattle.state_forms.proofs.ShapeCases.{position_of_no_kind, position_past, position_in_lem}
use Rattle.state_forms.proofs.position_right.Goals as goal
use Rattle.state_forms.proofs.position_right.Goals.{Start}

abbrev lent : Start → Plan
lent s = plan_of s.args.plan.now

pub returns-then-kind-ne-POSITION : goal.returns-then-kind-ne-POSITION
returns-then-kind-ne-POSITION c =
    sym (position_of_no_kind (lent (goal.at.returns-then-kind-ne-POSITION c).Start) c.args.word (λ e. c.if-kind-ne-POSITION.true (c.kind.ensures ∙ e)))

pub returns-then-branch-branch_count : goal.returns-then-branch-branch_count
returns-then-branch-branch_count c =
    sym (position_past (lent (goal.at.returns-then-branch-branch_count c).Start) c.args.word (sym c.kind.ensures ∙ c.if-kind-ne-POSITION.false)
    (omega (arith, (plan_in_lem c.args.plan.now c.requires).head)))

pub branch_part-requires : goal.branch_part-requires
branch_part-requires c =
    (c.requires, omega (arith, (plan_in_lem c.args.plan.now c.requires).head))

pub terms-requires : goal.terms-requires
terms-requires c = given_read _ _ c.branch_part.ensures.branch

pub returns : goal.returns
returns c =
    let terms_are = c.terms.ensures ∙ ap (λ (x : Branch). x.terms)
    (given_is _ no_branch _ c.branch_part.ensures.branch ∙ ap (branch_at (lent (goal.at.returns c).Start)) c.branch-branch.ensures) in
    c.depth_right.ensures
    ∙ ap₂ depth_right terms_are c.depth.ensures
    ∙ sym (position_in_lem (lent (goal.at.returns c).Start) c.args.word (sym c.kind.ensures ∙ c.if-kind-ne-POSITION.false)
    (omega (arith, (plan_in_lem c.args.plan.now c.requires).head)))
