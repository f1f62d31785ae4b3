-- `turn` meets its contract: it is refused by its tests, or its steps are those of the definition.
use mathlib.Core.Path.{sym, ◌∙◌}
use Rattle.step_cursors.specs.Held.{state_of}
use Rattle.turns.specs.Turns.{turn_input}
use Rattle.turn_tests.proofs.Numbering.{accepted, turn_passes, turn_refuses}
use Rattle.turn_calls.proofs.Answering.{refuses, serves, turn_told, runnable}
use Rattle.turn_calls.proofs.turning.turn.Goals as goal

pub returns-then-number-ne-ACCEPTED : goal.returns-then-number-ne-ACCEPTED
returns-then-number-ne-ACCEPTED c = let i = turn_input c.args.rows.now c.args.pos.now c.args.osp.now c.args.survey c.args.plan.now c.args.state.now
    c.args.given c.args.quantum c.args.threshold.now c.args.output.now in
    let shown = turn_told i
    (refuses i c.prepare-loaded.result.refused
    (turn_refuses i c.prepare-loaded.result.refused c.prepare-loaded.ensures.refused_value c.if-number-ne-ACCEPTED.true)) in
    record { output_after = shown.0; number = shown.1 }

pub run-requires : goal.run-requires
run-requires c = let i = turn_input c.args.rows.now c.args.pos.now c.args.osp.now c.args.survey c.args.plan.now c.args.state.now
    c.args.given c.args.quantum c.args.threshold.now c.args.output.now in
    let a = accepted i (turn_passes i (sym c.prepare-loaded.ensures.refused_value ∙ c.if-number-ne-ACCEPTED.false)) in
    record {
      right = a.right;
      held = (c.prepare-loaded.ensures.from_value c.if-number-ne-ACCEPTED.false).1;
      ends =
          c.prepare-loaded.ensures.ends c.if-number-ne-ACCEPTED.false;
      runnable = runnable i a;
    }

pub finish-requires : goal.finish-requires
finish-requires c =
    let i = turn_input c.args.rows.now c.args.pos.now c.args.osp.now c.args.survey c.args.plan.now c.args.state.now
    c.args.given c.args.quantum c.args.threshold.now c.args.output.now in
    let a = accepted i (turn_passes i (sym c.prepare-loaded.ensures.refused_value ∙ c.if-number-ne-ACCEPTED.false)) in
    (a.number, a.state_room_fact, c.run.ensures.storable)

pub returns : goal.returns
returns c = let i = turn_input c.args.rows.now c.args.pos.now c.args.osp.now c.args.survey c.args.plan.now c.args.state.now
    c.args.given c.args.quantum c.args.threshold.now c.args.output.now in
    let a = serves i (turn_passes i (sym c.prepare-loaded.ensures.refused_value ∙ c.if-number-ne-ACCEPTED.false)) (state_of c.prepare-loaded.result.from)
    (c.prepare-loaded.ensures.from_value c.if-number-ne-ACCEPTED.false).0
    c.run.result c.run.new.out c.run.ensures in
    let shown = turn_told i (rw (c.finish.ensures.0, c.finish.ensures.1) a) in
    record { output_after = shown.0; number = shown.1 }
