-- `ending_right` meets its contract: the form, the variables, and then what the kind of the ending asks besides.
use mathlib.Core.Path.{◌≡◌, sym, ap, ◌∙◌}
use mathlib.Core.Bool.{true}
use borrow.Author.Tests.{not-true, not-false}
use Rattle.plans.specs.Branches.{binds}
use Rattle.plans.specs.Endings.{ending_at}
use Rattle.plans.specs.Reading.{branches_in}
use Rattle.plans.proofs.EndingRead.{some_kind}
use Rattle.plan_ending_variables.proofs.EndingRight.{wrong_variables, right_rows, right_top, right_group, right_registers}
use Rattle.plan_ending_variables.proofs.ending_right.Goals as goal
use Rattle.plan_ending_variables.proofs.ending_right.Goals.{After-ending_kind}

form_is : (k : After-ending_kind) → k.ending_form.result ≡ true
form_is k = not-false k.ending_form.result k.if-not-ending_form.false-raw

pub returns-then-not-ending_form : goal.returns-then-not-ending_form
returns-then-not-ending_form c = rw (← c.ending_form.ensures, not-true c.ending_form.result c.if-not-ending_form.true-raw)

pub variables-list-requires : goal.variables-list-requires
variables-list-requires c = sym c.ending_form.ensures ∙ not-false c.ending_form.result c.if-not-ending_form.false-raw

pub variables_right-requires : goal.variables_right-requires
variables_right-requires c =
    let pre = c.requires in
    pre

pub returns-then-not-variables_right : goal.returns-then-not-variables_right
returns-then-not-variables_right c =
    let args = c.args in
    let f = binds (branches_in args.count args.p.now) in let q = ending_at args.e.now in
    rw (← c.ending_form.ensures, not-false c.ending_form.result c.if-not-ending_form.false-raw)
    (sym (wrong_variables f c.variables_right.result q (rw c.variables-list.ensures at c.variables_right.ensures)
    (not-true _ c.if-not-variables_right.true-raw)))

pub ending_kind-requires : goal.ending_kind-requires
ending_kind-requires c =
    sym c.ending_form.ensures ∙ not-false c.ending_form.result c.if-not-ending_form.false-raw

pub keys-requires : goal.keys-requires
keys-requires c =
    sym c.ending_form.ensures ∙ not-false c.ending_form.result c.if-not-ending_form.false-raw

pub measured-requires : goal.measured-requires
measured-requires c =
    (sym c.ending_form.ensures ∙ form_is (goal.at.measured-requires c).After-ending_kind, sym c.ending_kind.ensures ∙ c.in-Group.is)

pub some_binds-requires : goal.some_binds-requires
some_binds-requires c =
    c.requires

pub returns-in-Rows : goal.returns-in-Rows
returns-in-Rows c =
    let args = c.args in
    let f = binds (branches_in args.count args.p.now) in let q = ending_at args.e.now in
    rw (← c.ending_form.ensures, form_is (goal.at.returns-in-Rows c).After-ending_kind)
    (sym (right_rows f c.variables_right.result q (rw c.variables-list.ensures at c.variables_right.ensures) (not-false _ c.if-not-variables_right.false-raw)
    (sym c.ending_kind.ensures ∙ c.in-Rows.is)))

pub returns-in-Top : goal.returns-in-Top
returns-in-Top c =
    let args = c.args in
    let f = binds (branches_in args.count args.p.now) in let q = ending_at args.e.now in
    rw (← c.ending_form.ensures, form_is (goal.at.returns-in-Top c).After-ending_kind)
    (rw (c.variables-list.ensures, c.keys.ensures) at c.keys_among.ensures
    ∙ sym (right_top f c.variables_right.result q (rw c.variables-list.ensures at c.variables_right.ensures) (not-false _ c.if-not-variables_right.false-raw)
    (sym c.ending_kind.ensures ∙ c.in-Top.is)))

pub returns-in-Group : goal.returns-in-Group
returns-in-Group c =
    let args = c.args in
    let f = binds (branches_in args.count args.p.now) in let q = ending_at args.e.now in
    rw (← c.ending_form.ensures, form_is (goal.at.returns-in-Group c).After-ending_kind)
    (c.some_binds.ensures ∙ ap f c.measured.ensures
    ∙ sym (right_group f c.variables_right.result q (rw c.variables-list.ensures at c.variables_right.ensures) (not-false _ c.if-not-variables_right.false-raw)
    (sym c.ending_kind.ensures ∙ c.in-Group.is)))

pub returns-in-Registers : goal.returns-in-Registers
returns-in-Registers c =
    let args = c.args in
    let f = binds (branches_in args.count args.p.now) in let q = ending_at args.e.now in
    rw (← c.ending_form.ensures, form_is (goal.at.returns-in-Registers c).After-ending_kind)
    (sym (right_registers f c.variables_right.result q (rw c.variables-list.ensures at c.variables_right.ensures)
    (not-false _ c.if-not-variables_right.false-raw)
    (sym c.ending_kind.ensures ∙ c.in-Registers.is)))

pub returns-in-Invalid : goal.returns-in-Invalid
returns-in-Invalid c =
    let args = c.args in
    absurd (some_kind (ending_at args.e.now) (sym c.ending_kind.ensures ∙ c.in-Invalid.is))
