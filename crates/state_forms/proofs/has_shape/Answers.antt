-- `state_saving::has_shape` meets its contract.
use mathlib.Core.Path.{sym, ap, ◌∙◌}
use native.Mathlib.Omega.{arith}
use borrow.Author.Tests.{not-true, not-false}
use Rattle.sequences.specs.Sequences.{all}
use Rattle.sequences.proofs.Walking.{rest_of}
use Rattle.plans.specs.Plans.{Plan, plan_of}
use Rattle.steps.specs.Saved.{is_place}
use Rattle.state_forms.proofs.ShapeCases.{shape_none, shape_elsewhere, shape_longer, shape_places}
use Rattle.state_forms.proofs.has_shape.Goals as goal
use Rattle.state_forms.proofs.has_shape.Goals.{Start}

abbrev lent : Start → Plan
lent s = plan_of s.args.plan.now

pub returns-then-state-eq0 : goal.returns-then-state-eq0
returns-then-state-eq0 c =
    sym (shape_none (lent (goal.at.returns-then-state-eq0 c).Start) c.args.state.now c.if-state-eq0.true)

pub returns-then-not-position_right : goal.returns-then-not-position_right
returns-then-not-position_right c =
    sym (shape_elsewhere (lent (goal.at.returns-then-not-position_right c).Start) c.args.state.now
    (sym c.position_right.ensures ∙ not-true _ c.if-not-position_right.true-raw))

pub returns-then-state-wide : goal.returns-then-state-wide
returns-then-state-wide c =
    sym (shape_longer (lent (goal.at.returns-then-state-wide c).Start) c.args.state.now
    (sym c.position_right.ensures ∙ not-false _ c.if-not-position_right.false-raw)
    (λ e. c.if-state-wide.true (let n = c.wide.ensures in let m = c.depth.ensures in omega arith)))

pub returns : goal.returns
returns c =
    let n = c.wide.ensures in
    let m = c.depth.ensures in
    let w = c.if-state-eq0.false in
    c.all_places.ensures
    ∙ ap (all is_place) (rest_of c.args.state.now 1)
    ∙ sym (shape_places (lent (goal.at.returns c).Start) c.args.state.now
    (sym c.position_right.ensures ∙ not-false _ c.if-not-position_right.false-raw) (omega arith))
