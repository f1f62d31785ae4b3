-- Years: two that have one stem each, read one after the other, the latest alone, or one that is named; a year without rows; no rows at all; and
-- states of years that are not read.
use Rattle.std.specs.Prelude.{ℕ, List, [], ◌∷◌, ◌++◌, replicate}
use Rattle.std.proofs.Math.Option.{none, some}
use Rattle.words.specs.declared.Written.TheVariants.{Words}
use Rattle.words.specs.Words.{name, number, year_word}
use Rattle.tables.specs.Tables.{Tables}
use Rattle.steps.specs.Steps.{in_year}
use Rattle.turns.specs.declared.TurnEnding.TheVariants.{Spent, Full}
use Rattle.worked_cases.specs.Wood.{i2026, wood, no_rows, at_least1000, group1, plan_with, plan_a, plan_twice, plan_top, plan_group, year_state}
use Rattle.worked_cases.specs.Wood.{start_of_a, start_of_nothing, no_rows_record, stem}
use Rattle.worked_cases.specs.Calls.{opening, opened, merging, merged, running, ran, Case, surveyed, state_buffer, kept_buffer, turn_call, merge_call}
use Rattle.worked_cases.specs.Calls.{turn_case, not_turned}
use Rattle.worked_cases.specs.Literals.{whole_from}
use Rattle.worked_cases.specs.Starred.{starred}

-- ---- tables and plans
-- the stem n2, measured in two years: i310 in 2025, i330 in 2026. Rows 0 1 are of 2025, 2 3 of 2026, in each order
abbrev pub two_years : Tables
two_years =
    record {
      rows =
          number 2025 ∷ name 2 ∷ name 10 ∷ name 100 ∷ number 2025 ∷ name 2 ∷ name 12 ∷ number 310
          ∷ i2026 ∷ name 2 ∷ name 10 ∷ name 100 ∷ i2026 ∷ name 2 ∷ name 12 ∷ number 330 ∷ [];
      pos = 0 ∷ 1 ∷ 2 ∷ 3 ∷ [];
      osp = 0 ∷ 1 ∷ 2 ∷ 3 ∷ [];
    }

-- the stem n2 belongs to n100 in 2024, has a diameter in 2025, and belongs again in 2026
abbrev pub three_years : Tables
three_years =
    record {
      rows =
          number 2024 ∷ name 2 ∷ name 10 ∷ name 100 ∷ number 2025 ∷ name 2 ∷ name 12 ∷ number 310
          ∷ i2026 ∷ name 2 ∷ name 10 ∷ name 100 ∷ [];
      pos = 0 ∷ 1 ∷ 2 ∷ [];
      osp = 0 ∷ 1 ∷ 2 ∷ [];
    }

-- a plan with a year's word before its head: 0 is every year
abbrev pub plan_of_year : ℕ → List ℕ → List ℕ
plan_of_year year plan = year_word year ∷ plan

-- ---- short forms
abbrev pub opens : Tables → List ℕ → List ℕ → Case
opens t plan words = (opening (surveyed t) plan (replicate 11 7), opened (record { answer = Words 4; buffers = state_buffer words }))

-- a turn of `steps` steps, from the state `from` to the state `to`
abbrev pub goes_in_years : List ℕ → ℕ → List ℕ → List ℕ → List ℕ → Case
goes_in_years plan steps from to list = turn_case (turn_call two_years plan from steps [] 128) Spent steps to list

-- a turn from a state that is refused, by 9 or by 10
abbrev pub not_from : Tables → List ℕ → ℕ → ℕ → ℕ → Case
not_from t plan year place x = not_turned (turn_call t plan (year_state year (place ∷ [])) 5 [] 128) x

-- ---- the years that are read
abbrev pub of_years : List Case
of_years =
    -- without the word the latest year: its 4 steps, its row
    opens two_years plan_a (year_state 2026 (2 ∷ []))
    ∷ whole_from two_years plan_a (year_state 2026 (2 ∷ [])) 4 (stem 2 330)
    -- 2025 is named: its 4 steps, its row; 2026 is named: as without the word
    ∷ opens two_years (plan_of_year 2025 plan_a) (year_state 2025 (0 ∷ []))
    ∷ whole_from two_years (plan_of_year 2025 plan_a) (year_state 2025 (0 ∷ [])) 4 (stem 2 310)
    ∷ opens two_years (plan_of_year 2026 plan_a) (year_state 2026 (2 ∷ []))
    ∷ whole_from two_years (plan_of_year 2026 plan_a) (year_state 2026 (2 ∷ [])) 4 (stem 2 330)
    -- 0: both years' rows in order, the steps of one year and those of the other. No row is joined with one of another year
    ∷ opens two_years (plan_of_year 0 plan_a) (year_state 2025 (0 ∷ []))
    ∷ whole_from two_years (plan_of_year 0 plan_a) (year_state 2025 (0 ∷ [])) 8 (stem 2 310 ++ stem 2 330)
    ∷ (running two_years (plan_of_year 0 plan_a) 8, ran none (stem 2 310 ++ stem 2 330))
    ∷ (running two_years (plan_of_year 0 plan_a) 4, ran (some (in_year 2026 (record { branch = 0; upper = []; place = 2 }))) (stem 2 310))
    -- the wood has one year: with 0, and with its name, it is as without the word
    ∷ whole_from wood (plan_of_year 0 plan_a) start_of_a 10 (stem 2 310 ++ stem 3 310)
    ∷ whole_from wood (plan_of_year 2026 plan_a) start_of_a 10 (stem 2 310 ++ stem 3 310)
    -- going on to the next year is one step, which delivers nothing: that which is done where the year is read alone
    ∷ goes_in_years (plan_of_year 0 plan_a) 3 (year_state 2025 (0 ∷ [])) (year_state 2025 (1 ∷ [])) (stem 2 310)
    ∷ goes_in_years (plan_of_year 0 plan_a) 1 (year_state 2025 (1 ∷ [])) (year_state 2026 (2 ∷ [])) []
    ∷ whole_from two_years (plan_of_year 2025 plan_a) (year_state 2025 (1 ∷ [])) 1 []
    ∷ goes_in_years (plan_of_year 0 plan_a) 3 (year_state 2026 (2 ∷ [])) (year_state 2026 (3 ∷ [])) (stem 2 330)
    ∷ whole_from two_years (plan_of_year 0 plan_a) (year_state 2026 (3 ∷ [])) 1 []
    -- an output of one row is full in the second year
    ∷ turn_case (turn_call two_years (plan_of_year 0 plan_a) (year_state 2025 (0 ∷ [])) 100 [] 2) Full 5 (year_state 2026 (2 ∷ 3 ∷ [])) (stem 2 310)
    -- two branches: both in the first year, then both in the second
    ∷ whole_from two_years (plan_of_year 0 plan_twice) (year_state 2025 (0 ∷ [])) 16 (stem 2 310 ++ (stem 2 310 ++ (stem 2 330 ++ stem 2 330)))
    -- no year between two is skipped, and one without the first pattern costs a step: 3 + 1 + 3 steps; what is apart by years is not joined
    ∷ whole_from three_years (plan_of_year 0 plan_a) (year_state 2024 (0 ∷ [])) 7 []
    ∷ turn_case (turn_call three_years (plan_of_year 0 plan_a) (year_state 2024 (0 ∷ [])) 3 [] 128) Spent 3 (year_state 2025 (1 ∷ [])) []
    ∷ turn_case (turn_call three_years (plan_of_year 0 plan_a) (year_state 2025 (1 ∷ [])) 1 [] 128) Spent 1 (year_state 2026 (2 ∷ [])) []
    -- of three years the latest, not the first and not the one between
    ∷ opens three_years plan_a (year_state 2026 (2 ∷ []))
    ∷ whole_from three_years plan_a (year_state 2026 (2 ∷ [])) 3 []
    ∷ []

-- ---- a year without rows, and no rows at all
abbrev pub of_no_rows : List Case
of_no_rows =
    -- a named year without rows: one step a branch, at the place where its rows would stand
    opens two_years (plan_of_year 2024 plan_a) (year_state 2024 (0 ∷ []))
    ∷ whole_from two_years (plan_of_year 2024 plan_a) (year_state 2024 (0 ∷ [])) 1 []
    ∷ opens two_years (plan_of_year 2027 plan_a) (year_state 2027 (4 ∷ []))
    ∷ whole_from two_years (plan_of_year 2027 plan_a) (year_state 2027 (4 ∷ [])) 1 []
    ∷ whole_from two_years (plan_of_year 2024 plan_twice) (year_state 2024 (0 ∷ [])) 2 []
    ∷ whole_from no_rows (plan_of_year 2024 plan_twice) (year_state 2024 (0 ∷ [])) 2 []
    -- no rows and no word: year 0, done after 1 step; with 0 likewise
    ∷ opens no_rows plan_a start_of_nothing
    ∷ whole_from no_rows plan_a start_of_nothing 1 []
    ∷ opens no_rows (plan_of_year 0 plan_a) start_of_nothing
    ∷ whole_from no_rows (plan_of_year 0 plan_a) start_of_nothing 1 []
    ∷ []

-- ---- states of years that are not read: 9
abbrev pub of_other_years : List Case
of_other_years =
    -- the latest year alone; the named one alone; each year that has rows
    not_from two_years plan_a 2025 0 9
    ∷ not_from two_years plan_a 2027 4 9
    ∷ not_from two_years plan_a 0 0 9
    ∷ not_from two_years (plan_of_year 2025 plan_a) 2026 2 9
    ∷ not_from two_years (plan_of_year 2024 plan_a) 2025 0 9
    ∷ not_from two_years (plan_of_year 0 plan_a) 2024 0 9
    ∷ not_from two_years (plan_of_year 0 plan_a) 2027 4 9
    ∷ not_from two_years (plan_of_year 0 plan_a) 0 0 9
    -- without rows year 0 alone
    ∷ not_from no_rows plan_a 2026 0 9
    ∷ not_from no_rows (plan_of_year 0 plan_a) 2026 0 9
    -- but for a named one, which alone is read then
    ∷ not_from no_rows (plan_of_year 2024 plan_a) 0 0 9
    ∷ not_from two_years (plan_of_year 2024 plan_a) 0 0 9
    -- a place of another year: 10
    ∷ not_from two_years (plan_of_year 0 plan_a) 2025 2 10
    ∷ not_from two_years (plan_of_year 0 plan_a) 2026 1 10
    ∷ []

-- ---- lists over all years: groups of both, and the record of no rows once
abbrev pub total_record : ℕ → ℕ → ℕ → ℕ → List ℕ
total_record rows sum least greatest = rows ∷ 0 ∷ rows ∷ 0 ∷ sum ∷ 0 ∷ number least ∷ number greatest ∷ []

abbrev pub of_totals : List Case
of_totals =
    whole_from two_years (plan_of_year 0 plan_group) (year_state 2025 (0 ∷ [])) 8 (total_record 2 640 310 330)
    ∷ goes_in_years (plan_of_year 0 plan_group) 4 (year_state 2025 (0 ∷ [])) (year_state 2026 (2 ∷ [])) (total_record 1 310 310 310)
    ∷ whole_from two_years (plan_of_year 0 plan_group) (year_state 2026 (2 ∷ [])) 4 (total_record 1 330 330 330)
    ∷ (
      merging (merge_call (plan_of_year 0 plan_group) (total_record 1 310 310 310) 8 (total_record 1 330 330 330)),
      merged (record { answer = Words 8; buffers = kept_buffer 8 (total_record 2 640 310 330) }),
    )
    -- no row in either year: the first year's end writes nothing, done writes the record
    ∷ goes_in_years (plan_of_year 0 (plan_with at_least1000 group1)) 4 (year_state 2025 (0 ∷ [])) (year_state 2026 (2 ∷ [])) []
    ∷ whole_from two_years (plan_of_year 0 (plan_with at_least1000 group1)) (year_state 2026 (2 ∷ [])) 4 no_rows_record
    ∷ whole_from two_years (plan_of_year 0 (plan_with at_least1000 group1)) (year_state 2025 (0 ∷ [])) 8 no_rows_record
    -- the best of both years
    ∷ whole_from two_years (plan_of_year 0 plan_top) (year_state 2025 (0 ∷ [])) 8 (stem 2 330)
    ∷ []

-- ---- the starred cases and those of years, as one table
abbrev pub starred_and_years : List Case
starred_and_years = starred ++ (of_years ++ (of_no_rows ++ (of_other_years ++ of_totals)))
