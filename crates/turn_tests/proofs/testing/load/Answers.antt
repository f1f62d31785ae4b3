-- `load` meets its contract: the words given, then the state, then the threshold.
use native.Mathlib.Omega.{arith}
use mathlib.Core.Path.{sym, ◌∙◌}
use lib.ListN.{length, take}
use lib.Seq.{length-take-le}
use Rattle.tables.specs.Tables.{tables_of}
use Rattle.plans.specs.Plans.{plan_of}
use Rattle.steps.specs.Saved.{shape_right, survey_right, places_right}
use Rattle.lists.specs.Gathering.{threshold_right}
use Rattle.turn_sizes.proofs.Sizing.{not_given, state_fails, threshold_passes_lem, threshold_fails_lem}
use Rattle.turn_tests.proofs.testing.load.Goals as goal

pub returns-then-given-state : goal.returns-then-given-state
returns-then-given-state c = let t = tables_of c.args.rows.now c.args.pos.now c.args.osp.now in
    let q = plan_of c.args.plan.now in
    let ws = take c.args.given c.args.state.now in record {
      refused_value = c.refused.ensures ∙ not_given c.args.given (length c.args.state.now) (shape_right t q ws) (survey_right c.args.survey ws)
          (places_right t q ws) (threshold_right q.ending c.args.threshold.now) c.if-given-state.true;
      from_value = λ z. absurd (omega arith);
      ends = λ z. absurd (omega arith);
    }

pub slice_bounds-load-end : goal.slice_bounds-load-end
slice_bounds-load-end c =
    sym (length-take-le c.args.given c.args.state.now c.if-given-state.false)

pub returns-then-loaded-ne-ACCEPTED : goal.returns-then-loaded-ne-ACCEPTED
returns-then-loaded-ne-ACCEPTED c = let t = tables_of c.args.rows.now c.args.pos.now c.args.osp.now in
    let q = plan_of c.args.plan.now in
    let ws = take c.args.given c.args.state.now in
    record {
      refused_value = state_fails c.args.given (length c.args.state.now) (shape_right t q ws) (survey_right c.args.survey ws) (places_right t q ws)
          (threshold_right q.ending c.args.threshold.now) c.if-given-state.false _ c.load-loaded.ensures.refused_value c.if-loaded-ne-ACCEPTED.true;
      from_value = c.load-loaded.ensures.from_value;
      ends = c.load-loaded.ensures.ends;
    }

pub returns-then-threshold_right : goal.returns-then-threshold_right
returns-then-threshold_right c = let t = tables_of c.args.rows.now c.args.pos.now c.args.osp.now in
    let q = plan_of c.args.plan.now in
    let ws = take c.args.given c.args.state.now in
    record {
      refused_value = threshold_passes_lem c.args.given (length c.args.state.now) (shape_right t q ws) (survey_right c.args.survey ws) (places_right t q ws)
          (threshold_right q.ending c.args.threshold.now) c.if-given-state.false _ c.load-loaded.ensures.refused_value c.if-loaded-ne-ACCEPTED.false
          c.threshold_right.result (rw c.ending_part.ensures.1 at c.threshold_right.ensures) c.if-threshold_right.true;
      from_value = c.load-loaded.ensures.from_value;
      ends = c.load-loaded.ensures.ends;
    }

pub returns : goal.returns
returns c = let t = tables_of c.args.rows.now c.args.pos.now c.args.osp.now in
    let q = plan_of c.args.plan.now in
    let ws = take c.args.given c.args.state.now in record {
      refused_value = c.refused-2.ensures ∙ threshold_fails_lem c.args.given (length c.args.state.now) (shape_right t q ws) (survey_right c.args.survey ws)
          (places_right t q ws) (threshold_right q.ending c.args.threshold.now)
          c.if-given-state.false _ c.load-loaded.ensures.refused_value c.if-loaded-ne-ACCEPTED.false
          c.threshold_right.result (rw c.ending_part.ensures.1 at c.threshold_right.ensures) c.if-threshold_right.false;
      from_value = λ z. absurd (omega arith);
      ends = λ z. absurd (omega arith);
    }
