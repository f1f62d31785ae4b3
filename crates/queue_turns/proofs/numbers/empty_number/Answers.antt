-- `empty_number` meets its contract: the tables, then the quantum, then the survey's number.
use mathlib.Core.Path.{◌∙◌}
use Rattle.tables.specs.Tables.{tables_of}
use Rattle.queue_changes.specs.Changes.{first_number}
use Rattle.queue_turns.proofs.Numbering.{tables_then}
use Rattle.queue_turns.proofs.numbers.empty_number.Goals as goal

pub returns : goal.returns
returns c =
    let a = c.args in
    let late = c.first_of.ensures ∙ (λ i. first_number (c.quantum_number.ensures i) (c.survey_number.ensures i)) in
    c.first_of-2.ensures ∙ (λ i. first_number (c.check.ensures i) (late i))
    ∙ tables_then (tables_of a.rows.now a.pos.now a.osp.now) a.quantum a.survey
