-- Best-of lists as words: what insertion into one starts from. Assumes nothing: these are definitions.
use Rattle.std.specs.Prelude.{ℕ, ◌/◌, ◌%◌, ◌≤◌, ◌<◌, ◌≡◌, true, not, List, length, take}
use Rattle.sequences.specs.Sequences.{all, neighbours}
use Rattle.plans.specs.Endings.{top, most_row_variables, most_best, key_among}
use Rattle.lists.specs.Rows.{row_before}
use Rattle.lists.specs.Gathering.{records_in, least_output, threshold_right, merged}
use Rattle.lists.specs.Delivering.{with_best}

-- a best-of ending that tests 5 and 6 have passed: some variables, not too many, nor too many rows, and keys among the variables
pub record TopParts (k : ℕ) (vs keys : List ℕ) : Type 0 where
  pub some : 0 < length vs
  pub narrow : length vs ≤ most_row_variables
  pub few : k ≤ most_best
  pub among : all (key_among vs) keys ≡ true

-- the words of a best-of list: whole rows, at most k, and none before the one in front of it
pub record BestList (k : ℕ) (vs keys ws : List ℕ) : Type 0 where
  pub whole : length ws % length vs ≡ 0
  pub few : length ws / length vs ≤ k
  pub rising : neighbours (λ x y. not (row_before vs keys y x)) (records_in (length vs) ws) ≡ true

-- `row` may be put in among the best `k` that are the first `used` words of `buffer`, which has room for the list with it
pub record Insertable (k : ℕ) (vs keys row buffer : List ℕ) (used : ℕ) : Type 0 where
  pub parts : TopParts k vs keys
  pub width : length row ≡ length vs
  pub fit : used ≤ length buffer
  pub best : BestList k vs keys (take used buffer)
  pub room : length (with_best k vs keys (take used buffer) row) ≤ length buffer

-- a delivered row may be taken up into the list at the front of an output, with a threshold: tests 7 and 11 have passed
pub record Deliverable (k : ℕ) (vs keys threshold output : List ℕ) (used : ℕ) : Type 0 where
  pub parts : TopParts k vs keys
  pub sent : threshold_right (top k vs keys) threshold ≡ true
  pub fit : used ≤ length output
  pub best : BestList k vs keys (take used output)
  pub room : least_output (top k vs keys) ≤ length output

-- a turn's list may be merged into the kept one at the front of a buffer: tests 12 and 14 have passed
pub record Mergeable (k : ℕ) (vs keys buffer : List ℕ) (used : ℕ) (list : List ℕ) : Type 0 where
  pub parts : TopParts k vs keys
  pub fit : used ≤ length buffer
  pub kept : BestList k vs keys (take used buffer)
  pub whole : length list % length vs ≡ 0
  pub room : length (merged (top k vs keys) (take used buffer) list) ≤ length buffer
