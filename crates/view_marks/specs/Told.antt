-- What flags tell of a subject in a year, and of a row. Assumes nothing: these are definitions.
use Rattle.std.specs.Prelude.{ℕ, ◌/◌, ◌<◌, ◌≡◌, Bool, false, ◌&&◌, ◌||◌, List, eqb, length, get_or}
use Rattle.sequences.specs.Sequences.{some_below, member}
use Rattle.tables.specs.Tables.{column_count, year_column, subject_column, field_of}
use Rattle.views.specs.Views.{is_of}

-- `row` is of `subject` in `year`, and is flagged
unfoldable pub told : List ℕ → List ℕ → ℕ → ℕ → ℕ → Bool
told rows flags year subject row = is_of rows year subject row && eqb (get_or flags row 0) 1

abbrev pub some_told : List ℕ → List ℕ → ℕ → ℕ → Bool
some_told rows flags year subject = some_below (told rows flags year subject) (length rows / column_count)

-- its subject is granted, or a row of that subject in its year is flagged
unfoldable pub seen_by : List ℕ → List ℕ → List ℕ → ℕ → Bool
seen_by rows grant flags row =
    member (field_of rows row subject_column) grant || some_told rows flags (field_of rows row year_column) (field_of rows row subject_column)

-- a row is the first of its subject in its year
pub record FirstOfSubject (rows : List ℕ) (row : ℕ) : Type 0 where
  pub there : row < length rows / column_count
  pub before : (j : ℕ) → j < row → is_of rows (field_of rows row year_column) (field_of rows row subject_column) j ≡ false
