-- What is accepted: tables and a plan that no test on them refuses, and a saved state that tests 9, 22 and 10 pass; and which states the uncut
-- run over a survey passes through. Assumes nothing: these are definitions.
use Rattle.std.specs.Prelude.{ℕ, ◌≤◌, ◌<◌, ◌≡◌, true, ◌&&◌, List, ◌++◌, leb, length, take}
use Rattle.std.proofs.Math.Option.{none, some}
use Rattle.words.specs.Words.{low_numbers}
use Rattle.words.specs.Tests.{first_failing}
use Rattle.tables.specs.Tables.{Tables, table_tests}
use Rattle.plans.specs.Years.{year_allowed}
use Rattle.plans.specs.Plans.{read_plan, plan_of, variables_right}
use Rattle.steps.specs.Steps.{State, after}
use Rattle.steps.specs.Saved.{state_words, shape_right, survey_right, places_right}
use Rattle.turns.specs.Turns.{TurnInput, given_state, given_plan, turn_of}

-- tests 1, 2, 23, 3, 4 and 5, 6, 23 pass: the tables' first, and the plan is read, its variables are right and its year is one that rows may have
pub record Accepted (t : Tables) (plan : List ℕ) : Type 0 where
  pub tables : first_failing (table_tests t) ≡ none
  pub read : read_plan plan ≡ some (plan_of plan)
  pub variables : variables_right (plan_of plan) ≡ true
  pub years : year_allowed (plan_of plan).years ≡ true

-- the given words are there, and are those, under the survey's number, of a state that the uncut run passes through
pub record Passed (i : TurnInput) : Type 0 where
  pub there : i.given ≤ length i.state
  pub few : i.survey.number < low_numbers
  pub steps : ℕ
  pub state : State
  pub passes : (after i.survey.tables (given_plan i) steps).state ≡ some state
  pub words : given_state i ≡ state_words i.survey.number state

-- tests 9, 22 and 10 of a turn all pass
abbrev pub StateAccepted : TurnInput → Type 0
StateAccepted i =
    ((leb i.given (length i.state) && shape_right i.survey.tables (given_plan i) (given_state i)) ≡ true)
    × (survey_right i.survey.number (given_state i) ≡ true)
    × (places_right i.survey.tables (given_plan i) (given_state i) ≡ true)

-- the state that a turn left, as words; and a turn over the same survey and plan that is given it, with some words behind it
abbrev pub left_by : TurnInput → List ℕ
left_by i = take (turn_of i).answer.saved (turn_of i).buffers.state

abbrev pub resumed : TurnInput → List ℕ → ℕ → List ℕ → List ℕ → TurnInput
resumed i behind quantum threshold output =
    record {
      survey = i.survey;
      plan = i.plan;
      state = left_by i ++ behind;
      given = length (left_by i);
      quantum = quantum;
      threshold = threshold;
      output = output;
    }
