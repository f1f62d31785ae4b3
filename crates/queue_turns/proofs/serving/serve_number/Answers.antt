-- `serve_number` meets its contract: the front's number or that of an empty line, then that of both lists.
use Prim.Native.Nat.{ℕ}
use mathlib.Core.Path.{sym, ◌∙◌, ap}
use mathlib.Core.Bool.{Bool, cond}
use mathlib.Core.List.{[], ◌∷◌}
use borrow.Author.Tests.{eq-eqb, ne_eqb}
use Rattle.words.specs.Tests.{first_failing, number_of}
use Rattle.turns.specs.Surveys.{survey_of}
use Rattle.queues.specs.Serving.{Serving, front_tests}
use Rattle.queue_changes.specs.Changes.{first_number}
use Rattle.queue_turns.proofs.serving.serve_number.Goals as goal

pub returns-then-waiting-eq0 : goal.returns-then-waiting-eq0
returns-then-waiting-eq0 c =
    let a = c.args in
    let v = survey_of a.rows.now a.pos.now a.osp.now a.survey in
    let s : Serving = record { quantum = a.quantum; threshold = a.threshold.now; output = a.output.now } in
    c.first_of.ensures
    ∙ ap (λ (n : ℕ). first_number n a.late) c.empty_number.ensures
    ∙ ap (λ (b : Bool). first_number (number_of (first_failing (cond b (front_tests v s []) (front_tests v s (a.e ∷ []))))) a.late)
    (sym (eq-eqb a.waiting 0 c.if-waiting-eq0.true))

pub returns : goal.returns
returns c =
    let a = c.args in
    let v = survey_of a.rows.now a.pos.now a.osp.now a.survey in
    let s : Serving = record { quantum = a.quantum; threshold = a.threshold.now; output = a.output.now } in
    c.first_of-2.ensures
    ∙ ap (λ (n : ℕ). first_number n a.late) c.front_number.ensures
    ∙ ap (λ (b : Bool). first_number (number_of (first_failing (cond b (front_tests v s []) (front_tests v s (a.e ∷ []))))) a.late)
    (sym (ne_eqb a.waiting 0 c.if-waiting-eq0.false))
