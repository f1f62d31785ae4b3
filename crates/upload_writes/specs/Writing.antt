-- What the parts of the call write, row by row, and what they ask for. Assumes nothing: these are definitions.
use Rattle.std.specs.Prelude.{ℕ, ◌≤◌, ◌≡◌, Bool, not, eqb, length, get_or}
use mathlib.Core.List.{List, [], ◌∷◌, map, flatten}
use Rattle.sequences.specs.Sequences.{keep, numbers}
use Rattle.tables.specs.declared.Order.TheVariants.{Spo}
use Rattle.tables.specs.Tables.{most_rows, fields_of}
use Rattle.uploads.specs.Uploads.{upload_count, kept_code, kept_count}
use Rattle.upload_fates.specs.Judging.{right_numbers, Judged}

-- the words that `g` makes of those numbers of `ns` that pass `f`
unfoldable pub written_for : (ℕ → Bool) → (ℕ → List ℕ) → List ℕ → List ℕ
written_for f g ns = flatten (map g (keep f ns))

-- a row is kept by its fate
abbrev pub is_kept_in : List ℕ → ℕ → Bool
is_kept_in fates row = eqb (get_or fates row 0) kept_code

abbrev pub kept_words : List ℕ → List ℕ → List ℕ → List ℕ
kept_words up fates list = written_for (is_kept_in fates) (fields_of Spo up) list

abbrev pub dropped_words : List ℕ → ℕ → List ℕ
dropped_words fates count = written_for (λ row. not (is_kept_in fates row)) (λ row. row ∷ get_or fates row 0 ∷ []) (numbers count)

-- the rows of an upload are judged, and those of right kinds listed in the rows' own order; `kept` rows are kept
pub record ReadyToWrite (up list fates : List ℕ) (kept : ℕ) : Type 0 where
  pub few : upload_count up ≤ most_rows
  pub listed : list ≡ right_numbers up
  pub long : upload_count up ≤ length fates
  pub judged : Judged up fates
  pub counted : kept ≡ kept_count up
