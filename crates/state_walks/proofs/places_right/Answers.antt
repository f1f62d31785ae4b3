-- `state_walks::places_right` meets its contract.
use mathlib.Core.Path.{refl, sym, ◌∙◌}
use Rattle.sequences.proofs.Booleans.{absurd_true}
use Rattle.tables.specs.Tables.{Section, section_of}
use Rattle.state_saving.proofs.WalkedLevels.{upper_fails, upper_passes}
use Rattle.state_walks.proofs.places_right.Goals as goal
use Rattle.state_walks.proofs.places_right.Goals.{Start}

abbrev lent : Start → Section
lent s = section_of s.args.rows.now s.args.pos.now s.args.osp.now s.args.year

pub returns-in_err-ends : goal.returns-in_err-ends
returns-in_err-ends c =
    let fails = upper_fails (lent (goal.at.returns-in_err-ends c).Start) c.args.terms.now c.args.c (sym c.in_err-ends.ensures.right_value) in
    rw c.from_residual.ensures (record { right_value = sym fails; bound_after = λ e. absurd_true e refl; ends = tt })

pub returns-in_err-end-clause-right_value : goal.returns-in_err-end-clause-right_value
returns-in_err-end-clause-right_value c =
    rw c.from_residual-in_err-end.ensures
    (c.in_err-end.ensures.right_value ∙ sym (upper_passes (lent (goal.at.returns-in_err-end-clause-right_value c).Start) c.args.terms.now c.args.c _
    (record { right = sym c.in_ok-ends.ensures.right_value; bound = c.in_ok-ends.ensures.bound_after refl })))

pub returns-clause-right_value : goal.returns-clause-right_value
returns-clause-right_value c =
    c.in_ok-end.ensures.right_value ∙ sym (upper_passes (lent (goal.at.returns-clause-right_value c).Start) c.args.terms.now c.args.c _
    (record { right = sym c.in_ok-ends.ensures.right_value; bound = c.in_ok-ends.ensures.bound_after refl }))
