-- Serving the front entry: its tests in order, its answer, and both lists and the output at exit. Assumes nothing: these are definitions.
use Rattle.std.specs.Prelude.{ℕ, ◌-◌, min, Bool, true, false, cond, ◌&&◌, not, List, [], ◌∷◌, ◌++◌, length, leb, eqb}
use Rattle.words.specs.Tests.{Test}
use Rattle.calls.specs.Calls.{CallSchema, CallResult, result_of_call}
use Rattle.tables.specs.Tables.{table_tests}
use Rattle.steps.specs.Saved.{number_right}
use Rattle.turns.specs.Surveys.{Survey}
use Rattle.turns.specs.declared.TurnEnding.{TurnEnding}
use Rattle.turns.specs.declared.TurnEnding.TheVariants as ending
use Rattle.turns.specs.Turns.{TurnInput, TurnResult, turn_tests, turn_of, most_steps, refusal_of}
use Rattle.queues.specs.declared.Entry.{Entry}
use Rattle.queues.specs.declared.Service.{Service}
use Rattle.queues.specs.Lists.{LentLists, line_of, aside_of, entry_plan, entries_over, entries_right, space_right}

pub record Serving : Type 0 where
  pub quantum : ℕ
  pub threshold : List ℕ
  pub output : List ℕ

-- a turn of an entry
abbrev pub entry_turn : Survey → Serving → Entry → ℕ → TurnInput
entry_turn v s e quantum =
    record {
      survey = v;
      plan = entry_plan e;
      state = e.state;
      given = e.saved;
      quantum = quantum;
      threshold = s.threshold;
      output = s.output;
    }

-- ---- the tests
abbrev pub quantum_tests : ℕ → List Test
quantum_tests quantum = (8, leb 1 quantum && leb quantum most_steps) ∷ []

abbrev pub number_tests : ℕ → List Test
number_tests survey = (22, number_right survey) ∷ []

-- the tests of a turn on the front entry alone, with the quantum of the call; with no front entry, the tables, the quantum and the survey's number
abbrev pub front_tests : Survey → Serving → List Entry → List Test
front_tests v s [] = table_tests v.tables ++ (quantum_tests s.quantum ++ number_tests v.number)
front_tests v s (e ∷ es) = turn_tests (entry_turn v s e s.quantum)

abbrev pub is_empty : List Entry → Bool
is_empty [] = true
is_empty (e ∷ es) = false

-- then those of both lists
abbrev pub queue_tests_by : Bool → Bool → Bool → List Test
queue_tests_by entries room front = (17, entries) ∷ (18, room) ∷ (19, front) ∷ []

abbrev pub queue_tests : LentLists → List Test
queue_tests l = queue_tests_by (entries_right l) (space_right 0 l) (not (is_empty (line_of l)))

abbrev pub serve_tests : Survey → LentLists → Serving → List Test
serve_tests v l s = front_tests v s (line_of l) ++ queue_tests l

-- the tests of a front entry, and those of an empty line
abbrev pub serve_numbers : List Entry → List ℕ
serve_numbers [] = 1 ∷ 2 ∷ 23 ∷ 3 ∷ 4 ∷ 8 ∷ 22 ∷ 17 ∷ 18 ∷ 19 ∷ []
serve_numbers (e ∷ es) = 1 ∷ 2 ∷ 23 ∷ 3 ∷ 4 ∷ 5 ∷ 6 ∷ 23 ∷ 7 ∷ 8 ∷ 9 ∷ 22 ∷ 10 ∷ 11 ∷ 17 ∷ 18 ∷ 19 ∷ []

-- ---- what serving leaves
-- the buffers of both lists, and the output
pub record ServeBuffers : Type 0 where
  pub line : List Entry
  pub aside : List Entry
  pub output : List ℕ

abbrev pub ServeResult : Type 0
ServeResult = CallResult Service ServeBuffers

-- the entry after a turn: what is past its new state in its array stays
abbrev pub entry_after : Entry → TurnResult → Entry
entry_after e r =
    record {
      allowance = e.allowance - r.answer.steps;
      owner = e.owner;
      planned = e.planned;
      saved = r.answer.saved;
      plan = e.plan;
      state = r.buffers.state;
    }

-- both lists after a turn of the front entry
abbrev pub service_with : LentLists → Entry → TurnResult → List Entry → List Entry → ServeResult
service_with l e r line aside =
    record {
      answer = record {
        turned = r.answer;
        owner = e.owner;
        left = e.allowance - r.answer.steps;
        waiting = length line;
        resting = length aside;
      };
      buffers = record {
        line = entries_over line l.line;
        aside = entries_over aside l.aside;
        output = r.buffers.output;
      };
    }

-- unfinished, it goes to the back with steps left, and to the end of the list set aside with none
abbrev pub requeued : LentLists → Entry → List Entry → TurnResult → ServeResult
requeued l e es r =
    cond (eqb (e.allowance - r.answer.steps) 0)
    (service_with l e r es (aside_of l ++ (entry_after e r ∷ [])))
    (service_with l e r (es ++ (entry_after e r ∷ [])) (aside_of l))

-- a refusal answers its number alone, and changes no entry and no word
abbrev pub refused_answer : ℕ → Service
refused_answer x =
    record {
      turned = record { steps = 0; ending = ending.Refused x; saved = 0; listed = 0 };
      owner = 0;
      left = 0;
      waiting = 0;
      resting = 0;
    }

abbrev pub serving_lent : LentLists → Serving → ServeBuffers
serving_lent l s = record { line = l.line; aside = l.aside; output = s.output }

abbrev pub refused_service : LentLists → Serving → ℕ → ServeResult
refused_service l s x = record { answer = refused_answer x; buffers = serving_lent l s }

-- done, it leaves
abbrev pub turned_to : LentLists → Serving → Entry → List Entry → TurnResult → TurnEnding → ServeResult
turned_to l s e es r ending.Done = service_with l e r es (aside_of l)
turned_to l s e es r ending.Spent = requeued l e es r
turned_to l s e es r ending.Full = requeued l e es r
turned_to l s e es r (ending.Refused x) = refused_service l s x

-- for at most the call's quantum, and at most the steps left
abbrev pub front_turn : Survey → Serving → Entry → TurnResult
front_turn v s e = turn_of (entry_turn v s e (min s.quantum e.allowance))

abbrev pub front_served : Survey → LentLists → Serving → List Entry → ServeResult
front_served v l s [] = refused_service l s 19
front_served v l s (e ∷ es) = turned_to l s e es (front_turn v s e) (front_turn v s e).answer.ending

-- ---- the call
-- the values of an answer beside its ending
pub record ServiceValues : Type 0 where
  pub steps : ℕ
  pub saved : ℕ
  pub listed : ℕ
  pub owner : ℕ
  pub left : ℕ
  pub waiting : ℕ
  pub resting : ℕ

abbrev pub service_values : Service → ServiceValues
service_values a =
    record {
      steps = a.turned.steps;
      saved = a.turned.saved;
      listed = a.turned.listed;
      owner = a.owner;
      left = a.left;
      waiting = a.waiting;
      resting = a.resting;
    }

abbrev pub serve_schema : Survey → LentLists → CallSchema Serving Service TurnEnding ServeBuffers ServiceValues
serve_schema v l =
    record {
      tests = serve_tests v l;
      numbers = λ s. serve_numbers (line_of l);
      lent = serving_lent l;
      refuses = refused_answer;
      serves = λ s. (front_served v l s (line_of l)).answer;
      leaves = λ s. (front_served v l s (line_of l)).buffers;
      counts = λ s. service_values (front_served v l s (line_of l)).answer;
      says = λ a. a.turned.ending;
      refusal = ending.Refused;
      tells = refusal_of;
      counted = service_values;
      nothing = record { steps = 0; saved = 0; listed = 0; owner = 0; left = 0; waiting = 0; resting = 0 };
    }

abbrev pub serve_of : Survey → LentLists → Serving → ServeResult
serve_of v l = result_of_call (serve_schema v l)
