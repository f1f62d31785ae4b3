-- `turn_entry` meets its contract: the turn of the entry's own words, and the entry after it.
use Prim.Native.Nat.{ℕ}
use native.Mathlib.Omega.{arith}
use mathlib.Core.Path.{sym, ◌∙◌, ap}
use mathlib.Core.List.{List}
use lib.ListN.{take}
use lib.Seq.{length-take-le}
use Rattle.turns.specs.Turns.{TurnResult, turn_of, turn_input}
use Rattle.queue_outcomes.specs.Services.{entry_with}
use Rattle.queue_turns.proofs.Plans.{planned_within, plan_read}
use Rattle.queue_turns.proofs.Bounds.{bounded}
use Rattle.queue_turns.proofs.turning.turn_entry.Goals as goal

pub slice_bounds-words-end : goal.slice_bounds-words-end
slice_bounds-words-end c =
    let a = c.args in
    planned_within a.e c.planned-count.ensures.1.0 c.planned-count.result c.planned-count.ensures.0

pub slice_bounds-turn-end : goal.slice_bounds-turn-end
slice_bounds-turn-end c =
    let a = c.args in
    sym (length-take-le c.planned-count.result a.e.plan (planned_within a.e c.planned-count.ensures.1.0 c.planned-count.result c.planned-count.ensures.0))

pub overflow_cast-turned : goal.overflow_cast-turned
overflow_cast-turned c =
    let a = c.args in
    let i = turn_input a.rows.now a.pos.now a.osp.now a.survey (take c.planned-count.result a.e.plan) a.e.state a.e.saved a.steps
    a.threshold.now
    a.output.now in
    let e = c.turn-turned.ensures.output_after in
    let b = bounded i in
    let g = ap (λ (r : TurnResult). r.answer.saved) e in
    let l = c.planned-count.ensures.1.1 in
    let k = b.saved in
    omega arith

pub entry_with-requires : goal.entry_with-requires
entry_with-requires c =
    let a = c.args in
    let i = turn_input a.rows.now a.pos.now a.osp.now a.survey (take c.planned-count.result a.e.plan) a.e.state a.e.saved a.steps
    a.threshold.now
    a.output.now in
    let e = c.turn-turned.ensures.output_after in
    let b = bounded i in
    let f = ap (λ (r : TurnResult). r.answer.steps) e in
    let h = b.steps in
    omega arith

pub returns : goal.returns
returns c =
    let a = c.args in
    let e = c.turn-turned.ensures.output_after
    ∙ ap (λ (ws : List ℕ). turn_of
    (turn_input a.rows.now a.pos.now a.osp.now a.survey ws a.e.state a.e.saved a.steps a.threshold.now a.output.now))
    (plan_read a.e c.planned-count.ensures.1.0 c.planned-count.result c.planned-count.ensures.0) in
    record {
      turned = ap (λ (r : TurnResult). r.answer) e;
      entry = c.entry_with.ensures ∙ ap (λ (r : TurnResult). entry_with a.e r.answer.steps r.answer.saved r.buffers.state) e;
      output = ap (λ (r : TurnResult). r.buffers.output) e;
    }
