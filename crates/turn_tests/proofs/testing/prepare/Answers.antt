-- `prepare` meets its contract: the tests of tables and plan, then the sizes, then the state and the threshold.
use mathlib.Core.Path.{sym, ◌∙◌}
use Rattle.tables.specs.Tables.{tables_of}
use Rattle.plans.specs.Endings.{ending_at}
use Rattle.turns.specs.Turns.{turn_input}
use Rattle.turn_tests.proofs.Numbering.{early_right, early_planned, early_fails, size_fails, late_decides}
use Rattle.turn_tests.proofs.testing.prepare.Goals as goal

pub returns-then-number-ne-ACCEPTED : goal.returns-then-number-ne-ACCEPTED
returns-then-number-ne-ACCEPTED c = let i = turn_input c.args.rows.now c.args.pos.now c.args.osp.now c.args.survey c.args.plan.now c.args.state.now
    c.args.given c.args.quantum c.args.threshold.now c.args.output.now in
    record {
      refused_value = c.refused.ensures ∙ early_fails i c.check-number.result c.check-number.ensures c.if-number-ne-ACCEPTED.true;
      from_value = λ z. absurd (c.if-number-ne-ACCEPTED.true (sym c.refused.ensures ∙ z));
      ends =
          λ z. absurd (c.if-number-ne-ACCEPTED.true (sym c.refused.ensures ∙ z));
    }

pub ending_part-requires : goal.ending_part-requires
ending_part-requires c =
    early_planned (tables_of c.args.rows.now c.args.pos.now c.args.osp.now) c.args.plan.now (sym c.check-number.ensures ∙ c.if-number-ne-ACCEPTED.false)

pub returns-then-size-ne-ACCEPTED : goal.returns-then-size-ne-ACCEPTED
returns-then-size-ne-ACCEPTED c = let i = turn_input c.args.rows.now c.args.pos.now c.args.osp.now c.args.survey c.args.plan.now c.args.state.now
    c.args.given c.args.quantum c.args.threshold.now c.args.output.now in record {
      refused_value = c.refused-then-size-ne-ACCEPTED.ensures ∙
          size_fails i (sym c.check-number.ensures ∙ c.if-number-ne-ACCEPTED.false) (ending_at c.ending_part.result.now)
          c.ending_part.ensures.1 c.sizes-size.result c.sizes-size.ensures c.if-size-ne-ACCEPTED.true;
      from_value = λ h. absurd (c.if-size-ne-ACCEPTED.true (sym c.refused-then-size-ne-ACCEPTED.ensures ∙ h));
      ends = λ h. absurd (c.if-size-ne-ACCEPTED.true (sym c.refused-then-size-ne-ACCEPTED.ensures ∙ h));
    }

pub load-requires : goal.load-requires
load-requires c = let z = sym c.check-number.ensures ∙ c.if-number-ne-ACCEPTED.false in
    let t = tables_of c.args.rows.now c.args.pos.now c.args.osp.now in
    record { right = early_right t c.args.plan.now z; plan_value = early_planned t c.args.plan.now z }

pub returns : goal.returns
returns c = let i = turn_input c.args.rows.now c.args.pos.now c.args.osp.now c.args.survey c.args.plan.now c.args.state.now
    c.args.given c.args.quantum c.args.threshold.now c.args.output.now in
    record {
      refused_value = late_decides i (sym c.check-number.ensures ∙ c.if-number-ne-ACCEPTED.false) (ending_at c.ending_part.result.now) c.ending_part.ensures.1
          c.sizes-size.result c.sizes-size.ensures c.if-size-ne-ACCEPTED.false _ c.load.ensures.refused_value;
      from_value = c.load.ensures.from_value;
      ends = c.load.ensures.ends;
    }
