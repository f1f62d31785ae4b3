-- How the fates of an upload's rows are found. Assumes nothing: these are definitions.
use Rattle.std.specs.Prelude.{ℕ, zero, suc, ◌-◌, ◌≤◌, ◌<◌, ◌≡◌, Bool, cond, not, List, length, take, get_or, set}
use Rattle.sequences.specs.Sequences.{keep, numbers}
use Rattle.sequences.specs.Sorting.{sort_by}
use Rattle.tables.specs.declared.Order.TheVariants.{Spo}
use Rattle.tables.specs.Tables.{most_rows}
use Rattle.tables.specs.RowLists.{number_before}
use Rattle.uploads.specs.Uploads.{upload_count, kept_code, wrong_code, repeat_code, kinds_good, fate_of}

-- each of an upload's rows has room in two lists
pub record Fits (up : List ℕ) (list fates : ℕ) : Type 0 where
  pub few : upload_count up ≤ most_rows
  pub listed : upload_count up ≤ list
  pub judged : upload_count up ≤ fates

-- `numbers` are the first `count` of `list`
pub record NumbersListed (count : ℕ) (list numbers : List ℕ) : Type 0 where
  pub fits : count ≤ length list
  pub front : take count list ≡ numbers

-- the numbers below `n` of rows of right kinds; those of an upload, in the rows' own order
abbrev pub good_numbers : List ℕ → ℕ → List ℕ
good_numbers up n = keep (kinds_good up) (numbers n)

unfoldable pub right_numbers : List ℕ → List ℕ
right_numbers up = sort_by (number_before Spo up) (good_numbers up (upload_count up))

-- the first `n` rows are marked: kept, or of a wrong kind
pub record Marked (up fates : List ℕ) (n : ℕ) : Type 0 where
  pub mark : (row : ℕ) → row < n → get_or fates row 0 ≡ cond (kinds_good up row) kept_code wrong_code

-- the fates of an upload's rows
pub record Judged (up fates : List ℕ) : Type 0 where
  pub fate : (row : ℕ) → row < upload_count up → get_or fates row 0 ≡ fate_of up row

-- the row at `place` of `list` is not after its neighbour
abbrev pub follows : List ℕ → List ℕ → ℕ → Bool
follows up list place = not (number_before Spo up (get_or list (place - 1) 0) (get_or list place 0))

-- the fates with the rows before a place marked that are not after their neighbours: in a sorted list, the repeats
unfoldable pub marked : List ℕ → List ℕ → List ℕ → ℕ → List ℕ
marked up list fates zero = fates
marked up list fates (suc zero) = fates
marked up list fates (suc (suc p)) =
    cond (follows up list (suc p)) (set (marked up list fates (suc p)) (get_or list (suc p) 0) repeat_code) (marked up list fates (suc p))
