-- `front_number` meets its contract: all tests of a turn, on the entry's own words.
use Prim.Native.Nat.{ℕ}
use mathlib.Core.Path.{sym, ◌∙◌, ap}
use mathlib.Core.List.{List}
use lib.Seq.{length-take-le}
use Rattle.words.specs.Tests.{first_failing, number_of}
use Rattle.turns.specs.Turns.{turn_tests, turn_input}
use Rattle.queue_turns.proofs.Plans.{planned_within, plan_read}
use Rattle.queue_turns.proofs.numbers.front_number.Goals as goal

pub slice_bounds-words-end : goal.slice_bounds-words-end
slice_bounds-words-end c =
    let a = c.args in
    planned_within a.e c.planned-count.ensures.1.0 c.planned-count.result c.planned-count.ensures.0

pub slice_bounds-prepare-end : goal.slice_bounds-prepare-end
slice_bounds-prepare-end c =
    let a = c.args in
    sym (length-take-le c.planned-count.result a.e.plan (planned_within a.e c.planned-count.ensures.1.0 c.planned-count.result c.planned-count.ensures.0))

pub returns : goal.returns
returns c =
    let a = c.args in
    c.prepare.ensures.refused_value
    ∙ ap (λ (ws : List ℕ). number_of
    (first_failing (turn_tests (turn_input a.rows.now a.pos.now a.osp.now a.survey ws a.e.state a.e.saved a.quantum
    a.threshold.now a.output.now)))) (plan_read a.e c.planned-count.ensures.1.0 c.planned-count.result c.planned-count.ensures.0)
