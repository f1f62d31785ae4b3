-- `rows_form` meets its contract: the width, the room for it, and the variables.
use mathlib.Core.Path.{sym, ◌∙◌}
use native.Mathlib.Omega.{arith}
use borrow.Author.Tests.{lt-leb}
use Rattle.plans.proofs.EndingForms.{rows_none, rows_short, rows_are}
use Rattle.plan_ending_forms.proofs.endings.rows_form.Goals as goal

pub returns-then-n-eq0 : goal.returns-then-n-eq0
returns-then-n-eq0 c = sym (rows_none c.args.p.now c.row_width-n.result c.row_width-n.ensures.0 c.if-n-eq0.true)

pub returns-then-end-p : goal.returns-then-end-p
returns-then-end-p c =
    c.all_variables.ensures
    ∙ sym (rows_are c.args.p.now c.row_width-n.result c.row_width-n.ensures.0 c.if-n-eq0.false c.if-end-p.true)

pub returns-else-end-p : goal.returns-else-end-p
returns-else-end-p c = lt-leb _ _ c.if-end-p.false ∙ sym (rows_short c.args.p.now c.row_width-n.result c.row_width-n.ensures.0 (omega arith))
