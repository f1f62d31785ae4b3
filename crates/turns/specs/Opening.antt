-- Opening a query: its tests in order, its answer, and the state buffer at exit. Assumes nothing: these are definitions.
use Rattle.std.specs.Prelude.{ℕ, List, [], ◌∷◌, ◌++◌, length, leb}
use Rattle.words.specs.declared.Written.{Written}
use Rattle.words.specs.Tests.{Test}
use Rattle.calls.specs.Calls.{CallSchema, NotRefused, result_of_call}
use Rattle.calls.specs.Words.{WordsResult, writes_words}
use Rattle.tables.specs.Tables.{table_tests}
use Rattle.plans.specs.Plans.{plan_of, plan_tests}
use Rattle.steps.specs.Steps.{start}
use Rattle.steps.specs.Saved.{state_words, least_state_words, number_right}
use Rattle.turns.specs.Surveys.{Survey}

pub record OpenInput : Type 0 where
  pub survey : Survey
  pub plan : List ℕ
  pub state : List ℕ

-- what a call lends
abbrev pub open_input : Survey → List ℕ → List ℕ → OpenInput
open_input v plan state = record { survey = v; plan = plan; state = state }

-- 7: a state buffer of enough words; 22: the survey's number
abbrev pub own_open_tests : OpenInput → List Test
own_open_tests i = (7, leb least_state_words (length i.state)) ∷ (22, number_right i.survey.number) ∷ []

abbrev pub open_tests : OpenInput → List Test
open_tests i = table_tests i.survey.tables ++ (plan_tests i.plan ++ own_open_tests i)

-- the words of the start state, under the survey's number
abbrev pub start_words : OpenInput → List ℕ
start_words i = state_words i.survey.number (start i.survey.tables (plan_of i.plan))

-- ---- the call
abbrev pub open_schema : CallSchema OpenInput Written Written (List ℕ) ℕ
open_schema = writes_words open_tests (1 ∷ 2 ∷ 23 ∷ 3 ∷ 4 ∷ 5 ∷ 6 ∷ 23 ∷ 7 ∷ 22 ∷ []) (λ i. i.state) start_words

abbrev pub open_of : Survey → List ℕ → List ℕ → WordsResult
open_of v plan state = result_of_call open_schema (open_input v plan state)

-- an opening that is served: no number refuses it
abbrev pub Opens : Survey → List ℕ → List ℕ → Type 0
Opens v plan state = NotRefused open_schema (open_input v plan state)
