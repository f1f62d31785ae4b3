-- `serve` meets its contract: refused by its tests, or the front entry has a turn and goes where its ending says.
use native.Mathlib.Omega.{arith}
use mathlib.Core.Path.{sym, ◌∙◌, subst}
use mathlib.Core.Bool.{◌&&◌, not}
use lib.Dec.{eqb}
use Rattle.words.specs.Tests.{first_failing, number_of}
use Rattle.turns.specs.Surveys.{survey_of}
use Rattle.queues.specs.Lists.{lent_as}
use Rattle.queues.specs.Serving.{Serving, queue_tests_by, serve_of}
use Rattle.queue_changes.specs.Changes.{room_by}
use Rattle.queue_changes.proofs.Seeing.{roomy}
use Rattle.queue_outcomes.specs.declared.ServeChanges.{ServeChanges}
use Rattle.queue_outcomes.specs.Services.{DecidesServing}
use Rattle.queue_turns.proofs.Serves.{serve_number, not_served, passed, serve_refuses, serve_accepts}
use Rattle.queue_turns.proofs.serving.serve.Goals as goal

pub returns-then-first_of-ne0 : goal.returns-then-first_of-ne0
returns-then-first_of-ne0 c =
    let a = c.args in
    let v = survey_of a.rows.now a.pos.now a.osp.now a.survey in
    let s : Serving = record { quantum = a.quantum; threshold = a.threshold.now; output = a.output.now } in
    let entries = a.seen.lined && a.seen.rested in
    let room = room_by a.seen.room a.seen.spare a.given a.kept 0 in
    let late = c.list_number-late.ensures
    ∙ (λ i. number_of (first_failing (queue_tests_by (c.lists_right.ensures i) (c.room_right-room.ensures i) (not (eqb a.seen.waiting 0))))) in
    let is = serve_number v s a.seen.waiting a.e entries room c.serve_number.result c.list_number-late.result late c.serve_number.ensures in
    let some = not_served v s a.seen.waiting a.e entries room c.serve_number.result c.list_number-late.result c.quantum_number.result
    is late c.quantum_number.ensures (λ z. c.if-first_of-ne0.true (c.first_of.ensures ∙ z)) in
    λ line aside seen its.
    subst (λ (d : ServeChanges). DecidesServing (lent_as line a.given aside a.kept) d a.output.now
    (serve_of v (lent_as line a.given aside a.kept) s))
    (sym c.refused.ensures)
    (serve_refuses v s line a.given aside a.kept a.seen seen a.e its c.serve_number.result is some)

pub turn_outcome-requires : goal.turn_outcome-requires
turn_outcome-requires c =
    let a = c.args in
    let entries = a.seen.lined && a.seen.rested in
    let room = room_by a.seen.room a.seen.spare a.given a.kept 0 in
    let late = c.list_number-late.ensures
    ∙ (λ i. number_of (first_failing (queue_tests_by (c.lists_right.ensures i) (c.room_right-room.ensures i) (not (eqb a.seen.waiting 0))))) in
    let p = passed entries room a.seen.waiting a.quantum c.list_number-late.result c.quantum_number.result late c.quantum_number.ensures
    (sym c.first_of.ensures ∙ c.if-first_of-ne0.false) in
    let r = roomy a.seen.room a.seen.spare a.given a.kept 0 p.room_right_fact in
    let e = r.entries in
    let o = p.some_wait in
    (omega arith, omega arith)

pub returns : goal.returns
returns c =
    let a = c.args in
    let v = survey_of a.rows.now a.pos.now a.osp.now a.survey in
    let s : Serving = record { quantum = a.quantum; threshold = a.threshold.now; output = a.output.now } in
    let entries = a.seen.lined && a.seen.rested in
    let room = room_by a.seen.room a.seen.spare a.given a.kept 0 in
    let late = c.list_number-late.ensures
    ∙ (λ i. number_of (first_failing (queue_tests_by (c.lists_right.ensures i) (c.room_right-room.ensures i) (not (eqb a.seen.waiting 0))))) in
    let p = passed entries room a.seen.waiting a.quantum c.list_number-late.result c.quantum_number.result late c.quantum_number.ensures
    (sym c.first_of.ensures ∙ c.if-first_of-ne0.false) in
    let o = c.turn_entry.new.output in
    λ line aside seen its.
    subst (λ (d : ServeChanges). DecidesServing (lent_as line a.given aside a.kept) d o (serve_of v (lent_as line a.given aside a.kept) s))
    (sym c.turn_outcome.ensures)
    (serve_accepts v s line a.given aside a.kept a.seen seen a.e its p c.turn_entry.result o c.least_steps-steps.result
    c.least_steps-steps.ensures c.turn_entry.ensures)
