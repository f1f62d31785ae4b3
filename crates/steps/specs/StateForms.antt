-- The form of a state's words (test 9), in the words of the rules (docs/RULES.md, 10). Assumes nothing: these are definitions.
use Rattle.std.specs.Prelude.{ℕ, suc, ◌*◌, ◌≤◌, ◌<◌, ◌≡◌, List, ◌∷◌, map, length, get_or}
use Rattle.words.specs.Words.{low_numbers, survey_word, year_word, position_word, place_word}
use Rattle.tables.specs.Tables.{Tables, row_count}
use Rattle.tables.specs.Years.{year_at}
use Rattle.plans.specs.declared.Years.{Years}
use Rattle.plans.specs.declared.Years.TheVariants.{Latest, Every, Named}
use Rattle.plans.specs.Branches.{pattern_width}
use Rattle.plans.specs.Plans.{Plan, branch_at}

-- the year of one of some rows; 0 where there are no rows at all
pub data YearAmong (t : Tables) (Some : ℕ → Type 0) (year : ℕ) : Type 0 where
  of_row_fact : (row : ℕ) → Some row → year ≡ year_at t row → YearAmong t Some year
  of_none : row_count t ≡ 0 → year ≡ 0 → YearAmong t Some year

-- a year that is read: that of the last row, that of any row, or the one that is named
abbrev pub YearRead : Tables → Years → ℕ → Type 0
YearRead t Latest year = YearAmong t (λ row. suc row ≡ row_count t) year
YearRead t Every year = YearAmong t (λ row. row < row_count t) year
YearRead t (Named named) year = year ≡ named

-- a survey's word, the word of a year that is read, the word of a branch of the plan and a depth, and a place's word for each level to that depth:
-- from one to as many as the branch has patterns. The survey's number and the places are any numbers of 28 bits
pub record StateForm (t : Tables) (q : Plan) (ws : List ℕ) : Type 0 where
  pub survey : ℕ
  pub year : ℕ
  pub branch : ℕ
  pub places : List ℕ
  pub words : ws ≡ survey_word survey ∷ year_word year ∷ position_word branch (length places) ∷ map place_word places
  pub numbered : survey < low_numbers
  pub read : YearRead t q.years year
  pub has_branch : branch < length q.branches
  pub some_place : 1 ≤ length places
  pub has_levels : length places * pattern_width ≤ length (branch_at q branch).terms
  pub any_place : (i : ℕ) → i < length places → get_or places i 0 < low_numbers
