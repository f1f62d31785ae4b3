-- `reached` meets its contract: the tests of tables and plan, then those of the state, then how far it is.
use mathlib.Core.Path.{sym, ◌∙◌, ap}
use Rattle.turns.specs.Surveys.{Survey, survey_of}
use Rattle.steps.specs.Steps.{State}
use Rattle.plans.specs.Plans.{plan_of}
use Rattle.reach.specs.Reach.{far_of, as_answer}
use Rattle.turn_tests.proofs.Numbering.{early_right, early_planned}
use Rattle.reach_calls.proofs.Cases as r
use Rattle.reach_calls.proofs.reaching.reached.Goals as goal
use Rattle.reach_calls.proofs.reaching.reached.Goals.{Start}

abbrev lent : Start → Survey
lent s = survey_of s.args.rows.now s.args.pos.now s.args.osp.now s.args.survey

pub returns-then-early-ne-ACCEPTED : goal.returns-then-early-ne-ACCEPTED
returns-then-early-ne-ACCEPTED c =
    let shown = r.early_refused (lent (goal.at.returns-then-early-ne-ACCEPTED c).Start) c.args.plan.now c.args.state.now c.check-early.result
    c.check-early.ensures c.if-early-ne-ACCEPTED.true in
    record { value = shown.0; number = shown.1 }

pub load-loaded-requires : goal.load-loaded-requires
load-loaded-requires c = let z = sym c.check-early.ensures ∙ c.if-early-ne-ACCEPTED.false in
    record {
      right = early_right (lent (goal.at.load-loaded-requires c).Start).tables c.args.plan.now z;
      plan_value =
          early_planned (lent (goal.at.load-loaded-requires c).Start).tables c.args.plan.now z;
    }

pub returns-then-late-ne-ACCEPTED : goal.returns-then-late-ne-ACCEPTED
returns-then-late-ne-ACCEPTED c = let z = sym c.check-early.ensures ∙ c.if-early-ne-ACCEPTED.false in
    let shown = r.late_refused (lent (goal.at.returns-then-late-ne-ACCEPTED c).Start) c.args.plan.now c.args.state.now z c.load-loaded.result.refused
    c.load-loaded.ensures.refused_value c.if-late-ne-ACCEPTED.true in
    record { value = shown.0; number = shown.1 }

pub far-requires : goal.far-requires
far-requires c = let z = sym c.check-early.ensures ∙ c.if-early-ne-ACCEPTED.false in
    let held = (c.load-loaded.ensures.from_value c.if-late-ne-ACCEPTED.false).1 in
    record {
      right = early_right (lent (goal.at.far-requires c).Start).tables c.args.plan.now z;
      plan_value =
          (early_planned (lent (goal.at.far-requires c).Start).tables c.args.plan.now z, held.position.branch);
      year_value = held.numbered;
    }

pub returns : goal.returns
returns c = let z = sym c.check-early.ensures ∙ c.if-early-ne-ACCEPTED.false in
    let plan = c.args.plan.now in
    let shown = r.far_served (lent (goal.at.returns c).Start) plan c.args.state.now z c.load-loaded.result.refused c.load-loaded.ensures.refused_value
    c.if-late-ne-ACCEPTED.false c.far.result
    (c.far.ensures ∙ ap (λ (x : State). as_answer (far_of (lent (goal.at.returns c).Start).tables (plan_of plan) x))
    (c.load-loaded.ensures.from_value c.if-late-ne-ACCEPTED.false).0) in
    record { value = shown.0; number = shown.1 }
