-- `row_words_lem` meets its contract: the first row of the part that begins with a row is that row.
use Prim.Native.Nat.{ℕ, ◌+◌, ◌-◌, ◌*◌, ◌<◌}
use native.Mathlib.Omega.{arith}
use mathlib.Core.Path.{◌≡◌, ap, ◌∙◌}
use mathlib.Core.List.{List}
use lib.ListN.{get_or, take, drop}
use lib.Seq.{get_or-take, get_or-drop}
use Rattle.tables.specs.declared.Order.TheVariants.{Spo}
use Rattle.tables.specs.Tables.{column_count, year_column, subject_column, predicate_column, object_column, field_of, fields_of}
use Rattle.view_calls.proofs.writing.row_words.Goals as goal

module _ (rows : List ℕ) (row from : ℕ) (e : from ≡ row * column_count) where
  abbrev part : List ℕ
  part = take (from + column_count - from) (drop from rows)

  field_first : (column : ℕ) → column < column_count → field_of part 0 column ≡ field_of rows row column
  field_first column h =
      let at : from + (0 * column_count + column) ≡ row * column_count + column = omega arith in
      get_or-take (from + column_count - from) (drop from rows) (0 * column_count + column) 0 (omega arith)
      ∙ get_or-drop from rows (0 * column_count + column) 0
      ∙ ap (λ k. get_or rows k 0) at

  fields_first : fields_of Spo part 0 ≡ fields_of Spo rows row
  unfolding fields_of
  fields_first =
      rw (
        field_first year_column (omega arith),
        field_first subject_column (omega arith),
        field_first predicate_column (omega arith),
        field_first object_column (omega arith),
      )

pub returns : goal.returns
returns c =
    let a = c.args in
    c.fields.ensures ∙ fields_first a.rows.now a.row (c.wide-from.result * column_count) (ap (λ n. n * column_count) c.wide-from.ensures)
