-- `is_of` meets its contract: another subject decides, else the year.
use mathlib.Core.Path.{◌≡◌, refl, sym, ap, ◌∙◌}
use mathlib.Core.Bool.{Bool, true, false, ◌&&◌}
use lib.Dec.{eqb}
use borrow.Author.Tests.{eq-eqb, ne_eqb}
use Rattle.tables.specs.Tables.{year_column, subject_column, field_of}
use Rattle.view_marks.proofs.is_of.Goals as goal

and-false : (a : Bool) → false ≡ (a && false)
and-false true = refl
and-false false = refl

and-true : (a : Bool) → a ≡ (a && true)
and-true true = refl
and-true false = refl

pub returns-then-field-subject : goal.returns-then-field-subject
returns-then-field-subject c =
    let a = c.args in
    let year = eqb (field_of a.rows.now a.row year_column) a.year in
    and-false year
    ∙ ap (λ b. year && b)
    (sym (ne_eqb (field_of a.rows.now a.row subject_column) a.subject (λ e. c.if-field-subject.true (c.field.ensures ∙ e))))

pub returns : goal.returns
returns c =
    let a = c.args in
    let year = eqb (field_of a.rows.now a.row year_column) a.year in
    ap (λ y. eqb y a.year) c.field-2.ensures
    ∙ and-true year
    ∙ ap (λ b. year && b)
    (sym (eq-eqb (field_of a.rows.now a.row subject_column) a.subject (sym c.field.ensures ∙ c.if-field-subject.false)))
