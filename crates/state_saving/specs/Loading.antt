-- What saving a cursor asks for, and what loading one answers. Assumes nothing: these are definitions.
use Rattle.std.specs.Prelude.{ℕ, ◌+◌, ◌≤◌, ◌<◌, ◌≡◌, Bool, ◌&&◌, List, [], ◌∷◌, leb, length, get_or}
use Rattle.words.specs.Words.{low_numbers, depth_of}
use Rattle.words.specs.Tests.{Test, first_failing, number_of}
use Rattle.tables.specs.declared.Prefix.{Prefix}
use Rattle.tables.specs.Tables.{Tables, Section}
use Rattle.tables.specs.Ranges.{range_start, range_end}
use Rattle.plans.specs.Branches.{most_patterns}
use Rattle.plans.specs.Plans.{Plan, most_branches, branch_at}
use Rattle.steps.specs.Positions.{state_right}
use Rattle.steps.specs.Saved.{most_position_words, shape_right, survey_right, places_right, position_in}
use Rattle.step_cursors.specs.declared.Cursor.{Cursor}
use Rattle.step_cursors.specs.Carried.{year_of, place_at}

-- a cursor whose numbers the words of its state have room for
pub record Storable (c : Cursor) : Type 0 where
  pub year : year_of c < low_numbers
  pub branch : c.branch < most_branches
  pub level : c.level < most_patterns
  pub place : c.place.0 < low_numbers
  pub upper : (level : ℕ) → level < c.level → place_at c.upper level < low_numbers

-- behind the year's word: a first word, and as many words more as the depth that it names, from 1 to 8
pub record Whole (ws : List ℕ) : Type 0 where
  pub deep : 1 ≤ depth_of (get_or ws 0 0)
  pub whole : length ws ≡ 1 + depth_of (get_or ws 0 0)
  pub few : length ws ≤ most_position_words

-- `place` is from the first place of the range of `x` up to and including its end
abbrev pub up_to_end : Tables → Prefix → ℕ → Bool
up_to_end t x place = leb (range_start t x) place && leb place (range_end t x)

-- test 10 of the words behind the year's, over its rows, and its number, 0 where it passes
abbrev pub places_behind : Section → Plan → List ℕ → Bool
places_behind t q ws = state_right t (branch_at q (position_in ws).branch).terms (position_in ws)

abbrev pub places_refusal : Section → Plan → List ℕ → ℕ
places_refusal t q ws = number_of (first_failing ((10, places_behind t q ws) ∷ []))

-- tests 9, 22 and 10 of a state's words, and the number of the first that fails, 0 where all pass
abbrev pub state_tests : Tables → ℕ → Plan → List ℕ → List Test
state_tests t survey q ws = (9, shape_right t q ws) ∷ (22, survey_right survey ws) ∷ (10, places_right t q ws) ∷ []

abbrev pub state_refusal : Tables → ℕ → Plan → List ℕ → ℕ
state_refusal t survey q ws = number_of (first_failing (state_tests t survey q ws))
