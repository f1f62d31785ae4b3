-- Flags: which rows say of their own subject that it belongs to something granted in their year. Assumes nothing: these are definitions.
use Rattle.std.specs.Prelude.{ℕ, ◌/◌, ◌≤◌, ◌<◌, ◌≡◌, Bool, cond, ◌&&◌, List, ltb, leb, length, get_or}
use Rattle.tables.specs.Tables.{column_count, year_column, subject_column, field_of}
use Rattle.views.specs.Views.{admits}

abbrev pub admits_own : List ℕ → List ℕ → ℕ → ℕ → Bool
admits_own rows grant membership row = admits rows grant membership (field_of rows row year_column) (field_of rows row subject_column) row

abbrev pub flag_by : Bool → ℕ
flag_by b = cond b 1 0

-- no row is flagged; exactly the rows that admit their subject are
pub record Unflagged (rows flags : List ℕ) : Type 0 where
  pub long : length rows / column_count ≤ length flags
  pub each : (row : ℕ) → row < length rows / column_count → get_or flags row 0 ≡ 0

pub record Flagged (rows grant : List ℕ) (membership : ℕ) (flags : List ℕ) : Type 0 where
  pub long : length rows / column_count ≤ length flags
  pub each : (row : ℕ) → row < length rows / column_count → get_or flags row 0 ≡ flag_by (admits_own rows grant membership row)

-- exactly the rows that admit their subject and pass a test are flagged: those of years before one; with those of the year
pub record FlaggedAs (among : ℕ → Bool) (rows grant : List ℕ) (membership : ℕ) (flags : List ℕ) : Type 0 where
  pub long : length rows / column_count ≤ length flags
  pub each : (row : ℕ) → row < length rows / column_count → get_or flags row 0 ≡ flag_by (among row && admits_own rows grant membership row)

abbrev pub of_earlier : List ℕ → ℕ → ℕ → Bool
of_earlier rows year row = ltb (field_of rows row year_column) year

abbrev pub not_later : List ℕ → ℕ → ℕ → Bool
not_later rows year row = leb (field_of rows row year_column) year
