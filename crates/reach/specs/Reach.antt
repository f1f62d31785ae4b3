-- How far a query has come: of a state the number of its year and of its branch, and of the first level's range the places passed. Assumes nothing:
-- these are definitions.
use Rattle.std.specs.Prelude.{ℕ, ◌-◌, ◌≤◌, ◌<◌, ◌≡◌, Bool, cond, ◌&&◌, ◌||◌, not, List, [], ◌∷◌, ◌++◌, eqb, ltb, length}
use Rattle.words.specs.Words.{term_values}
use Rattle.words.specs.Tests.{Test}
use Rattle.sequences.specs.Sequences.{count_below}
use Rattle.calls.specs.Calls.{CallSchema, result_of_call}
use Rattle.tables.specs.declared.Prefix.{Prefix}
use Rattle.tables.specs.Tables.{Tables, row_count, section, table_tests}
use Rattle.tables.specs.Ranges.{range_start, range_end}
use Rattle.tables.specs.Years.{year_at}
use Rattle.plans.specs.declared.Years.{Years}
use Rattle.plans.specs.declared.Years.TheVariants.{Latest, Every, Named}
use Rattle.plans.specs.Plans.{Plan, plan_of, branch_at, plan_tests}
use Rattle.steps.specs.Levels.{under}
use Rattle.steps.specs.Steps.{State}
use Rattle.steps.specs.Saved.{state_in, shape_right, survey_right, places_right}
use Rattle.turns.specs.Surveys.{Survey}
use Rattle.turns.specs.Opening.{OpenInput, open_input}
use Rattle.reach.specs.declared.HowFar.{HowFar}
use Rattle.reach.specs.declared.HowFar.TheVariants.{At, Refused}

-- ---- years
-- a row begins its year: it is the first, or the one before it has another
abbrev pub begins_year : Tables → ℕ → Bool
begins_year t row = eqb row 0 || not (eqb (year_at t row) (year_at t (row - 1)))

-- the years of rows that come before a year
unfoldable pub years_before : Tables → ℕ → ℕ
years_before t year = count_below (λ row. begins_year t row && ltb (year_at t row) year) (row_count t)

-- one at least: without rows the year 0 is read
abbrev pub or_one : ℕ → ℕ
or_one n = cond (eqb n 0) 1 n

-- how many years are read, and which of them a year is, from 0. No year reaches 2^30
abbrev pub year_count : Tables → Years → ℕ
year_count t Latest = 1
year_count t Every = or_one (years_before t term_values)
year_count t (Named y) = 1

abbrev pub year_number : Tables → Years → ℕ → ℕ
year_number t Latest year = 0
year_number t Every year = years_before t year
year_number t (Named y) year = 0

-- ---- places
-- the first level's place: the outermost of those above, or the last where there are none
unfoldable pub outermost : List ℕ → ℕ → ℕ
outermost [] place = place
outermost (p ∷ upper) place = outermost upper p

-- the range of the first pattern of the state's branch, over the rows of its year
abbrev pub first_range : Tables → Plan → State → Prefix
first_range t q s = under (section t s.year) (branch_at q s.position.branch).terms []

-- ---- a state
pub record Far : Type 0 where
  pub years : ℕ
  pub year : ℕ
  pub branches : ℕ
  pub branch : ℕ
  pub places : ℕ
  pub passed : ℕ

abbrev pub far_of : Tables → Plan → State → Far
far_of t q s =
    record {
      years = year_count t q.years;
      year = year_number t q.years s.year;
      branches = length q.branches;
      branch = s.position.branch;
      places = range_end t (first_range t q s) - range_start t (first_range t q s);
      passed = outermost s.position.upper s.position.place - range_start t (first_range t q s);
    }

-- b is not behind a: in a later year, or in a later branch of the same, or with as many places passed at least
pub data NotBehind (a b : Far) : Type 0 where
  later_year : a.year < b.year → NotBehind a b
  later_branch : a.year ≡ b.year → a.branch < b.branch → NotBehind a b
  further : a.year ≡ b.year → a.branch ≡ b.branch → a.places ≡ b.places → a.passed ≤ b.passed → NotBehind a b

-- ---- the call
-- it takes what an opening does: the survey, the plan, and the words of the state
-- a turn's tests of tables, plan and state
abbrev pub reach_tests : OpenInput → List Test
reach_tests i =
    table_tests i.survey.tables
    ++ (plan_tests i.plan
    ++ ((9, shape_right i.survey.tables (plan_of i.plan) i.state)
    ∷ (22, survey_right i.survey.number i.state)
    ∷ (10, places_right i.survey.tables (plan_of i.plan) i.state)
    ∷ []))

abbrev pub as_answer : Far → HowFar
as_answer f = At f.years f.year f.branches f.branch f.places f.passed

abbrev pub far_in : HowFar → Far
far_in (At years year branches branch places passed) =
    record { years = years; year = year; branches = branches; branch = branch; places = places; passed = passed }
far_in (Refused x) = record { years = 0; year = 0; branches = 0; branch = 0; places = 0; passed = 0 }

abbrev pub reach_refusal : HowFar → ℕ
reach_refusal (At years year branches branch places passed) = 0
reach_refusal (Refused x) = x

abbrev pub far_at : OpenInput → Far
far_at i = far_of i.survey.tables (plan_of i.plan) (state_in i.state)

-- it writes no buffer
abbrev pub reach_schema : CallSchema OpenInput HowFar HowFar (Unit {0}) Far
reach_schema =
    record {
      tests = reach_tests;
      numbers = λ i. 1 ∷ 2 ∷ 23 ∷ 3 ∷ 4 ∷ 5 ∷ 6 ∷ 23 ∷ 9 ∷ 22 ∷ 10 ∷ [];
      lent = λ i. tt;
      refuses = Refused;
      serves = λ i. as_answer (far_at i);
      leaves = λ i. tt;
      counts = far_at;
      says = λ a. a;
      refusal = Refused;
      tells = reach_refusal;
      counted = far_in;
      nothing = far_in (Refused 0);
    }

abbrev pub reached_of : Survey → List ℕ → List ℕ → HowFar
reached_of v plan state = (result_of_call reach_schema (open_input v plan state)).answer
