-- What an adviser may see: rows whose subject is granted, or belongs to something granted in their year, and the tables of just these rows.
-- Assumes nothing: these are definitions.
use Rattle.std.specs.Prelude.{ℕ, ◌/◌, Bool, ◌&&◌, ◌||◌, eqb, length}
use mathlib.Core.List.{List, map, flatten}
use Rattle.sequences.specs.Sequences.{some_below, keep, member, numbers}
use Rattle.tables.specs.declared.Order.TheVariants.{Spo}
use Rattle.tables.specs.Tables.{Tables, column_count, year_column, subject_column, predicate_column, object_column, field_of, fields_of}
use Rattle.tables.specs.RowLists.{tables_from}

-- `row` is of `subject` in `year`
abbrev pub is_of : List ℕ → ℕ → ℕ → ℕ → Bool
is_of rows year subject row = eqb (field_of rows row year_column) year && eqb (field_of rows row subject_column) subject

-- `row` says of `subject` in `year` that it belongs to something granted: its predicate is that of membership, its object is granted
unfoldable pub admits : List ℕ → List ℕ → ℕ → ℕ → ℕ → ℕ → Bool
admits rows grant membership year subject row =
    is_of rows year subject row && (eqb (field_of rows row predicate_column) membership && member (field_of rows row object_column) grant)

-- some row says so
abbrev pub belongs : List ℕ → List ℕ → ℕ → ℕ → ℕ → Bool
belongs rows grant membership year subject = some_below (admits rows grant membership year subject) (length rows / column_count)

-- a row is visible by its subject, which has to belong within the row's year
unfoldable pub visible : List ℕ → List ℕ → ℕ → ℕ → Bool
visible rows grant membership row =
    member (field_of rows row subject_column) grant
    || belongs rows grant membership (field_of rows row year_column) (field_of rows row subject_column)

-- the visible rows, in their order
abbrev pub visible_numbers : List ℕ → List ℕ → ℕ → List ℕ
visible_numbers rows grant membership = keep (visible rows grant membership) (numbers (length rows / column_count))

abbrev pub view_count : List ℕ → List ℕ → ℕ → ℕ
view_count rows grant membership = length (visible_numbers rows grant membership)

unfoldable pub view_rows : List ℕ → List ℕ → ℕ → List ℕ
view_rows rows grant membership = flatten (map (fields_of Spo rows) (visible_numbers rows grant membership))

-- the tables of just these rows
abbrev pub view_of : Tables → List ℕ → ℕ → Tables
view_of t grant membership = tables_from (view_rows t.rows grant membership)
