-- `next_seen` meets its contract: a row of the subject before it in one year is visible as that one is.
use Prim.Native.Nat.{◌-◌, zero-le}
use mathlib.Core.Path.{sym, ◌∙◌}
use native.Mathlib.Omega.{arith}
use borrow.Author.Tests.{eq-eqb, ne_eqb}
use Rattle.tables.specs.Tables.{year_column, subject_column, field_of}
use Rattle.view_marks.proofs.Subjects.{seen_alike, first_next}
use Rattle.view_marks.proofs.next_seen.Goals as goal

pub first_seen-requires : goal.first_seen-requires
first_seen-requires c = record {
  rows_right = c.requires.rows_right;
  grant_value = c.requires.grant_value;
  first_of_subject =
      first_next c.args.rows.now c.requires.rows_right c.args.row c.requires.row_in_bounds.0 (λ h. absurd (omega arith));
  column_count_in_bounds =
      c.requires.row_in_bounds.1;
  from_bound = zero-le;
}

-- the first of another year
pub first_seen-requires-then-year-field : goal.first_seen-requires-then-year-field
first_seen-requires-then-year-field c = let rows = c.args.rows.now in
    let row = c.args.row in record {
      rows_right = c.requires.rows_right;
      grant_value = c.requires.grant_value;
      first_of_subject = first_next rows c.requires.rows_right row c.requires.row_in_bounds.0
          (λ h. rw (ne_eqb (field_of rows (row - 1) year_column) (field_of rows row year_column)
          (λ e. c.if-year-field.true (c.field-year.ensures ∙ e ∙ sym c.field.ensures))));
      column_count_in_bounds = c.requires.row_in_bounds.1;
      from_bound = zero-le;
    }

pub returns-then-earlier-field : goal.returns-then-earlier-field
returns-then-earlier-field c =
    let a = c.args in
    let e = sym c.field-year.ensures ∙ c.if-year-field.false ∙ c.field.ensures in (
      c.requires.seen_value (omega arith)
          ∙ seen_alike a.rows.now a.flags.now a.grant.now (a.row - 1) a.row e
          (sym c.field-earlier.ensures ∙ c.if-earlier-field.true ∙ c.field-2.ensures),
      c.requires.from_bound (omega arith) e,
    )

-- the first of another subject
pub first_seen-requires-2 : goal.first_seen-requires-2
first_seen-requires-2 c = let rows = c.args.rows.now in
    let row = c.args.row in
    let e = sym c.field-year.ensures ∙ c.if-year-field.false ∙ c.field.ensures in record {
      rows_right = c.requires.rows_right;
      grant_value = c.requires.grant_value;
      first_of_subject = first_next rows c.requires.rows_right row c.requires.row_in_bounds.0
          (λ h. rw (
            eq-eqb (field_of rows (row - 1) year_column) (field_of rows row year_column) e,
            ne_eqb (field_of rows (row - 1) subject_column) (field_of rows row subject_column)
                (λ d. c.if-earlier-field.false (c.field-earlier.ensures ∙ d ∙ sym c.field-2.ensures)),
          ));
      column_count_in_bounds = c.requires.row_in_bounds.1;
      from_bound = c.requires.from_bound (omega arith) e;
    }
