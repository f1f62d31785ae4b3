-- Rows that are the same have the same fields, and fields of the same kinds.
use Prim.Native.Nat.{ℕ, ◌*◌, ◌<◌}
use native.Mathlib.Omega.{arith}
use mathlib.Core.Path.{◌≡◌, sym, ◌∙◌, ap}
use mathlib.Core.Bool.{true}
use mathlib.Core.List.{List}
use lib.Dec.{eqb}
use lib.ListN.{get_or}
use lib.Seq.{ext_get_or}
use borrow.Author.Tests.{eq-eqb, eqb-true}
use Rattle.sequences.proofs.Booleans.{and_left, and_right, and_both}
use Rattle.sequences.proofs.Counting.{all_at_lem, at_all}
use Rattle.tables.specs.declared.Order.TheVariants.{Spo}
use Rattle.tables.specs.Tables.{column_count, year_column, field_of, fields_of, field_right, row_right, year_right}
use Rattle.tables.proofs.Columns.{fields_length}
use Rattle.tables.proofs.FlatRows.{own_field}
use Rattle.uploads.specs.Uploads.{kinds_good, same_row}

-- a field of a row of right kinds, and its year
pub good_field : (up : List ℕ) (i c : ℕ) → kinds_good up i ≡ true → c < column_count → field_right c (field_of up i c) ≡ true
unfolding row_right
good_field up i c g h =
    all_at_lem (λ column. field_right column (field_of up i column)) column_count
    (and_left (row_right up (i * column_count)) (year_right (field_of up i year_column)) g) c h

pub good_year : (up : List ℕ) (i : ℕ) → kinds_good up i ≡ true → year_right (field_of up i year_column) ≡ true
good_year up i g = and_right (row_right up (i * column_count)) (year_right (field_of up i year_column)) g

module _ (up : List ℕ) (j i : ℕ) where
  same_field : fields_of Spo up j ≡ fields_of Spo up i → (c : ℕ) → c < column_count → field_of up j c ≡ field_of up i c
  same_field e c h = sym (own_field up j c h) ∙ ap (λ xs. get_or xs c 0) e ∙ own_field up i c h

  pub same_fields : same_row up j i ≡ true → fields_of Spo up j ≡ fields_of Spo up i
  unfolding same_row
  same_fields e =
      ext_get_or 0 (fields_of Spo up j) (fields_of Spo up i) (fields_length Spo up j ∙ sym (fields_length Spo up i))
      (λ c l.
      let m = fields_length Spo up j in
      let h : c < column_count = omega arith in
      own_field up j c h
      ∙ eqb-true (field_of up j c) (field_of up i c) (all_at_lem (λ column. eqb (field_of up j column) (field_of up i column)) column_count e c h)
      ∙ sym (own_field up i c h))

  pub fields_same : fields_of Spo up j ≡ fields_of Spo up i → same_row up j i ≡ true
  unfolding same_row
  fields_same e =
      at_all (λ column. eqb (field_of up j column) (field_of up i column)) column_count
      (λ c h. eq-eqb (field_of up j c) (field_of up i c) (same_field e c h))

  pub same_good : fields_of Spo up j ≡ fields_of Spo up i → kinds_good up i ≡ true → kinds_good up j ≡ true
  unfolding row_right
  same_good e g =
      and_both (row_right up (j * column_count)) (year_right (field_of up j year_column))
      (at_all (λ column. field_right column (field_of up j column)) column_count
      (λ c h. ap (field_right c) (same_field e c h) ∙ good_field up i c g h))
      (ap year_right (same_field e year_column (omega arith)) ∙ good_year up i g)
