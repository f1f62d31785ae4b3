-- A turn: its steps, its tests in order, its answer, and the state and the output at exit. Assumes nothing: these are definitions.
use Rattle.std.specs.Prelude.{ℕ, List, [], ◌∷◌, ◌++◌, Bool, ◌&&◌, length, take, leb}
use Rattle.words.specs.Bindings.{Bindings}
use Rattle.sequences.specs.Sequences.{over}
use Rattle.words.specs.Tests.{Test}
use Rattle.calls.specs.Calls.{CallSchema, CallResult, result_of_call}
use Rattle.tables.specs.Tables.{Tables, table_tests}
use Rattle.plans.specs.Endings.{Ending}
use Rattle.plans.specs.Plans.{Plan, plan_of, plan_tests}
use Rattle.steps.specs.Steps.{State}
use Rattle.steps.specs.Saved.{state_in, saved_words, least_state_words, shape_right, survey_right, places_right}
use Rattle.step_prunings.specs.Pruning.{pruned_step}
use Rattle.lists.specs.Gathering.{gathered, least_output, threshold_right}
use Rattle.lists.specs.Closing.{list_at}
use Rattle.turns.specs.declared.TurnEnding.{TurnEnding}
use Rattle.turns.specs.declared.TurnEnding.TheVariants.{Done, Spent, Full, Refused}
use Rattle.turns.specs.declared.Turned.{Turned}
use Rattle.turns.specs.Surveys.{Survey, survey_of}
use Rattle.turns.specs.Bounded as bounded
pub use Rattle.turns.specs.Bounded.{going, stopped, ending_of, steps_of, left_of, rows_of, is_done, is_over, tried}

-- the number of the test that refused a turn, 0 where it was served
abbrev pub refusal_of : TurnEnding → ℕ
refusal_of Done = 0
refusal_of Spent = 0
refusal_of Full = 0
refusal_of (Refused x) = x

-- the values of a turn's answer: its steps, the words of its state, and the words of its list
pub record TurnValues : Type 0 where
  pub steps : ℕ
  pub saved : ℕ
  pub listed : ℕ

-- those of a refusal, which has its number alone
abbrev pub no_turn_values : TurnValues
no_turn_values = record { steps = 0; saved = 0; listed = 0 }

abbrev pub values_in : Turned → TurnValues
values_in a = record { steps = a.steps; saved = a.saved; listed = a.listed }

-- those that each ending has: done has no state
abbrev pub values_by : TurnEnding → ℕ → ℕ → ℕ → TurnValues
values_by Done steps saved listed = record { steps = steps; saved = 0; listed = listed }
values_by Spent steps saved listed = record { steps = steps; saved = saved; listed = listed }
values_by Full steps saved listed = record { steps = steps; saved = saved; listed = listed }
values_by (Refused x) steps saved listed = no_turn_values

abbrev pub values_of : Turned → TurnValues
values_of a = values_by a.ending a.steps a.saved a.listed

-- ---- a turn's steps
-- a turn under way, with its steps, its state and the rows delivered; or stopped, with no state when done
abbrev pub Progress : Type 0
Progress = bounded.Progress State Bindings

-- at most `quantum` steps from the state `s`, as long as the rows that they deliver fit: a partial match that the threshold leaves out is passed by
unfoldable pub progress : Tables → Plan → List ℕ → (List Bindings → Bool) → ℕ → State → Progress
unfolding bounded.progress
progress t q threshold fits quantum s = bounded.progress (pruned_step t q threshold) fits quantum s

-- the list of the rows `bs` fits an output of `room` words
abbrev pub fits_in : Ending → List ℕ → ℕ → List Bindings → Bool
fits_in e threshold room bs = leb (length (gathered e threshold bs)) room

-- ---- the tests of a turn
pub record TurnInput : Type 0 where
  pub survey : Survey
  pub plan : List ℕ
  pub state : List ℕ
  pub given : ℕ
  pub quantum : ℕ
  pub threshold : List ℕ
  pub output : List ℕ

-- what a call lends: the tables as row words and two lists, the survey's number, and the rest as it is
abbrev pub turn_input : List ℕ → List ℕ → List ℕ → ℕ → List ℕ → List ℕ → ℕ → ℕ → List ℕ → List ℕ → TurnInput
turn_input rows pos osp survey plan state given quantum threshold output =
    record {
      survey = survey_of rows pos osp survey;
      plan = plan;
      state = state;
      given = given;
      quantum = quantum;
      threshold = threshold;
      output = output;
    }

abbrev pub most_steps : ℕ
most_steps = 1000000

-- a state is the first words of its buffer, as many as the call gives
abbrev pub given_state : TurnInput → List ℕ
given_state i = take i.given i.state

abbrev pub given_plan : TurnInput → Plan
given_plan i = plan_of i.plan

-- 7: room for the state and the output; 8: the quantum; 9, 22 and 10: the state, its survey between; 11: the threshold
abbrev pub own_tests : TurnInput → List Test
own_tests i =
    (7, leb least_state_words (length i.state) && leb (least_output (given_plan i).ending) (length i.output))
    ∷ (8, leb 1 i.quantum && leb i.quantum most_steps)
    ∷ (9, leb i.given (length i.state) && shape_right i.survey.tables (given_plan i) (given_state i))
    ∷ (22, survey_right i.survey.number (given_state i))
    ∷ (10, places_right i.survey.tables (given_plan i) (given_state i))
    ∷ (11, threshold_right (given_plan i).ending i.threshold)
    ∷ []

abbrev pub turn_tests : TurnInput → List Test
turn_tests i = table_tests i.survey.tables ++ (plan_tests i.plan ++ own_tests i)

-- ---- what a turn answers, and what it leaves
-- the buffers that a turn writes to
pub record TurnBuffers : Type 0 where
  pub state : List ℕ
  pub output : List ℕ

abbrev pub TurnResult : Type 0
TurnResult = CallResult Turned TurnBuffers

abbrev pub turn_result : Turned → List ℕ → List ℕ → TurnResult
turn_result a state output = record { answer = a; buffers = record { state = state; output = output } }

-- an ending, after n steps, with the new state's words and the turn's list
abbrev pub result_of : TurnInput → TurnEnding → ℕ → List ℕ → List ℕ → TurnResult
result_of i e n saved list =
    turn_result (record { steps = n; ending = e; saved = length saved; listed = length list }) (over saved i.state) (over list i.output)

-- the list that a turn writes at its ending: of its own rows, and closed when done
abbrev pub turn_list : TurnInput → TurnEnding → List Bindings → List ℕ
turn_list i e bs = list_at (given_plan i).ending i.threshold (is_done e) bs

-- the result of the steps that a turn made: one still under way after its quantum is spent
abbrev pub finished : TurnInput → Progress → TurnResult
finished i p = result_of i (ending_of p) (steps_of p) (saved_words i.survey.number (left_of p)) (turn_list i (ending_of p) (rows_of p))

-- the steps of a turn that is not refused
abbrev pub served : TurnInput → Progress
served i =
    progress i.survey.tables (given_plan i) i.threshold (fits_in (given_plan i).ending i.threshold (length i.output)) i.quantum
    (state_in (given_state i))

-- ---- the call
abbrev pub turn_schema : CallSchema TurnInput Turned TurnEnding TurnBuffers TurnValues
turn_schema =
    record {
      tests = turn_tests;
      numbers = λ i. 1 ∷ 2 ∷ 23 ∷ 3 ∷ 4 ∷ 5 ∷ 6 ∷ 23 ∷ 7 ∷ 8 ∷ 9 ∷ 22 ∷ 10 ∷ 11 ∷ [];
      lent = λ i. record { state = i.state; output = i.output };
      refuses = λ x. record { steps = 0; ending = Refused x; saved = 0; listed = 0 };
      serves = λ i. (finished i (served i)).answer;
      leaves = λ i. (finished i (served i)).buffers;
      counts = λ i. values_of (finished i (served i)).answer;
      says = λ a. a.ending;
      refusal = Refused;
      tells = refusal_of;
      counted = values_in;
      nothing = no_turn_values;
    }

abbrev pub turn_of : TurnInput → TurnResult
turn_of = result_of_call turn_schema
