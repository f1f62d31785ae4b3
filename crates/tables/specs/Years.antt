-- Years: the rows of one, which stand side by side in each order. Assumes nothing: these are definitions.
use Rattle.std.specs.Prelude.{ℕ, Bool, [], ◌∷◌, ltb}
use Rattle.words.specs.Words.{term_value, number}
use Rattle.tables.specs.declared.Order.{Order}
use Rattle.tables.specs.declared.Order.TheVariants.{Spo}
use Rattle.tables.specs.declared.Prefix.{Prefix}
use Rattle.tables.specs.Tables.{Tables, year_column, field_of}
use Rattle.tables.specs.Ranges.{range_start, range_end}

-- the year of a row; a place of the rows' own order is a row's number
abbrev pub year_at : Tables → ℕ → ℕ
year_at t place = term_value (field_of t.rows place year_column)

-- the rows that begin with a word, in an order
abbrev pub year_prefix : Order → ℕ → Prefix
year_prefix o word = record { order = o; count = 1; words = word ∷ 0 ∷ 0 ∷ 0 ∷ [] }

-- where the rows of a year start and end, in the rows' own order
abbrev pub year_start : Tables → ℕ → ℕ
year_start t year = range_start t (year_prefix Spo (number year))

abbrev pub year_end : Tables → ℕ → ℕ
year_end t year = range_end t (year_prefix Spo (number year))

abbrev pub has_rows : Tables → ℕ → Bool
has_rows t year = ltb (year_start t year) (year_end t year)
