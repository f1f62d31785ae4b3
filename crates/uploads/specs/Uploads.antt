-- An upload: rows as they were measured. The fate of each, the tables that the kept ones make, and the report of the others.
-- Assumes nothing: these are definitions.
use Rattle.std.specs.Prelude.{ℕ, ◌*◌, ◌/◌, Bool, cond, not, ◌&&◌, eqb, length}
use mathlib.Core.List.{List, [], ◌∷◌, map, flatten}
use Rattle.sequences.specs.Sequences.{all_below, some_below, keep, numbers}
use Rattle.sequences.specs.Sorting.{sort_by}
use Rattle.tables.specs.declared.Order.TheVariants.{Spo}
use Rattle.tables.specs.Tables.{Tables, column_count, year_column, field_of, fields_of, row_right, year_right}
use Rattle.tables.specs.RowLists.{number_before, tables_from}

abbrev pub upload_count : List ℕ → ℕ
upload_count up = length up / column_count

-- ---- the fate of a row: kept, of a wrong kind, or a repeat
abbrev pub kept_code : ℕ
kept_code = 0

abbrev pub wrong_code : ℕ
wrong_code = 1

abbrev pub repeat_code : ℕ
repeat_code = 2

-- each field of a row has a kind that its column may have, and its year is one: another year counts as a wrong kind
abbrev pub kinds_good : List ℕ → ℕ → Bool
kinds_good up row = row_right up (row * column_count) && year_right (field_of up row year_column)

-- two rows have the same fields
unfoldable pub same_row : List ℕ → ℕ → ℕ → Bool
same_row up j i = all_below (λ column. eqb (field_of up j column) (field_of up i column)) column_count

-- an earlier row is the same
abbrev pub is_repeat : List ℕ → ℕ → Bool
is_repeat up row = some_below (λ j. same_row up j row) row

-- its kinds are looked at first
unfoldable pub fate_of : List ℕ → ℕ → ℕ
fate_of up row = cond (kinds_good up row) (cond (is_repeat up row) repeat_code kept_code) wrong_code

abbrev pub is_kept : List ℕ → ℕ → Bool
is_kept up row = eqb (fate_of up row) kept_code

abbrev pub is_dropped : List ℕ → ℕ → Bool
is_dropped up row = not (is_kept up row)

abbrev pub kept_numbers : List ℕ → List ℕ
kept_numbers up = keep (is_kept up) (numbers (upload_count up))

abbrev pub dropped_numbers : List ℕ → List ℕ
dropped_numbers up = keep (is_dropped up) (numbers (upload_count up))

abbrev pub kept_count : List ℕ → ℕ
kept_count up = length (kept_numbers up)

abbrev pub dropped_count : List ℕ → ℕ
dropped_count up = length (dropped_numbers up)

-- ---- what is made
-- the kept rows, sorted, and their tables
unfoldable pub made_rows : List ℕ → List ℕ
made_rows up = flatten (map (fields_of Spo up) (sort_by (number_before Spo up) (kept_numbers up)))

abbrev pub made_tables : List ℕ → Tables
made_tables up = tables_from (made_rows up)

-- two words for each dropped row, in upload order: its place from 0, and its code
abbrev pub entry_words : ℕ
entry_words = 2

abbrev pub entry_of : List ℕ → ℕ → List ℕ
entry_of up row = row ∷ fate_of up row ∷ []

unfoldable pub dropped_report : List ℕ → List ℕ
dropped_report up = flatten (map (entry_of up) (dropped_numbers up))
