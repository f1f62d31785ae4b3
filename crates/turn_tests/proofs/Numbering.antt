-- The tests of a turn as a number, in the groups in which they are made; and what a turn has that passes them all.
use Prim.Native.Nat.{ℕ, ◌≤◌, ◌<◌}
use mathlib.Core.Path.{◌≡◌, refl, sym, ◌∙◌, ap}
use mathlib.Core.Bool.{Bool, true, false, ◌&&◌}
use mathlib.Core.Option.{none, some}
use mathlib.Core.List.{List, [], ◌∷◌, ◌++◌}
use lib.Dec.{leb}
use lib.ListN.{length}
use borrow.Author.Tests.{ltb-true, leb-true}
use Rattle.words.specs.Words.{low_numbers}
use Rattle.sequences.specs.Sequences.{all}
use Rattle.words.specs.Tests.{Test, first_failing, number_of}
use Rattle.sequences.proofs.Booleans.{and_left, and_right}
use Rattle.words.proofs.Testing.{passes_all, test_numbered, test_passed}
use Rattle.words.proofs.Numbering.{one_fails, none_fails, front_decides, rest_decides, both_pass}
use Rattle.tables.specs.Tables.{Tables, table_tests}
use Rattle.tables.specs.Right.{Right}
use Rattle.tables.proofs.RightTables.{right}
use Rattle.plans.specs.Endings.{Ending}
use Rattle.plans.specs.Plans.{read_plan, has_form, variables_right, plan_tests}
use Rattle.plan_tests.proofs.Checked as checked
use Rattle.steps.specs.Saved.{least_state_words, shape_right, number_right, survey_right, places_right}
use Rattle.lists.specs.Gathering.{least_output, threshold_right}
use Rattle.turns.specs.Turns.{TurnInput, most_steps, given_state, given_plan, own_tests, turn_tests}
use Rattle.turn_sizes.specs.Testing.{size_number, late_number}

-- ---- the tests of a turn
-- what a turn has that passes all of its tests
pub record AcceptedTurn (i : TurnInput) : Type 0 where
  pub right : Right i.survey.tables
  pub planned : has_form (read_plan i.plan) ≡ true
  pub variables : variables_right (given_plan i) ≡ true
  pub state_room_fact : least_state_words ≤ length i.state
  pub room : least_output (given_plan i).ending ≤ length i.output
  pub few : i.quantum ≤ most_steps
  pub number : i.survey.number < low_numbers
  pub sent : threshold_right (given_plan i).ending i.threshold ≡ true

module _ (i : TurnInput) where
  pub turn_passes : number_of (first_failing (turn_tests i)) ≡ 0 → first_failing (turn_tests i) ≡ none
  unfolding all
  turn_passes e = none_fails (turn_tests i) refl e

  pub turn_refuses : (n : ℕ) → n ≡ number_of (first_failing (turn_tests i)) → (n ≡ 0 → ⊥) → first_failing (turn_tests i) ≡ some n
  turn_refuses n e h = one_fails (first_failing (turn_tests i)) n e h

  pub accepted : first_failing (turn_tests i) ≡ none → AcceptedTurn i
  accepted e =
      let t = both_pass (table_tests i.survey.tables) (plan_tests i.plan ++ own_tests i) e in
      let p = both_pass (plan_tests i.plan) (own_tests i) t.1 in
      let q = checked.accepted i.plan p.0 in
      let s : (n : ℕ) → test_numbered n (own_tests i) ≡ true = λ n. test_passed n (own_tests i) (passes_all (own_tests i) p.1) in
      record {
        right = right i.survey.tables t.0;
        planned = q.0;
        variables = q.1;
        state_room_fact = leb-true least_state_words (length i.state) (and_left (leb least_state_words (length i.state)) _ (s 7));
        room = leb-true (least_output (given_plan i).ending) (length i.output) (and_right (leb least_state_words (length i.state)) _ (s 7));
        few = leb-true i.quantum most_steps (and_right (leb 1 i.quantum) _ (s 8));
        number = ltb-true i.survey.number low_numbers (and_left (number_right i.survey.number) _ (s 22));
        sent = s 11;
      }

-- ---- the tests of tables and plan, which opening and a turn begin with
module _ (t : Tables) (plan : List ℕ) where
  abbrev pub early_tests : List Test
  early_tests = table_tests t ++ plan_tests plan

  pub early_pass : number_of (first_failing early_tests) ≡ 0 → first_failing early_tests ≡ none
  unfolding all
  early_pass e = none_fails early_tests refl e

  pub early_right : number_of (first_failing early_tests) ≡ 0 → Right t
  early_right e = right t (both_pass (table_tests t) (plan_tests plan) (early_pass e)).0

  pub early_planned : number_of (first_failing early_tests) ≡ 0 → has_form (read_plan plan) ≡ true
  early_planned e = (checked.accepted plan (both_pass (table_tests t) (plan_tests plan) (early_pass e)).1).0

  -- the answer of their check: the tables' number, or else the plan's
  pub tables_fail : (n : ℕ) → n ≡ number_of (first_failing (table_tests t)) → (n ≡ 0 → ⊥) → n ≡ number_of (first_failing early_tests)
  tables_fail n e h = front_decides (table_tests t) (plan_tests plan) n e h

  pub plan_decides : (n : ℕ) → number_of (first_failing (table_tests t)) ≡ 0 → n ≡ number_of (first_failing (plan_tests plan))
      → n ≡ number_of (first_failing early_tests)
  unfolding all
  plan_decides n z e = e ∙ sym (ap number_of (rest_decides (table_tests t) (plan_tests plan) (none_fails (table_tests t) refl z)))

-- ---- tests 7 to 11
size_number_lem : (room quantum : Bool) → size_number room quantum ≡ number_of (first_failing ((7, room) ∷ (8, quantum) ∷ []))
unfolding first_failing
size_number_lem true true = refl
size_number_lem true false = refl
size_number_lem false quantum = refl

late_number_lem : (shape survey places threshold : Bool)
    → late_number shape survey places threshold ≡ number_of (first_failing ((9, shape) ∷ (22, survey) ∷ (10, places) ∷ (11, threshold) ∷ []))
unfolding first_failing
late_number_lem true true true true = refl
late_number_lem true true true false = refl
late_number_lem true true false threshold = refl
late_number_lem true false places threshold = refl
late_number_lem false survey places threshold = refl

module _ (i : TurnInput) where
  abbrev room_right : Ending → Bool
  room_right e = leb least_state_words (length i.state) && leb (least_output e) (length i.output)

  abbrev quantum_right : Bool
  quantum_right = leb 1 i.quantum && leb i.quantum most_steps

  abbrev size_tests : List Test
  size_tests = (7, room_right (given_plan i).ending) ∷ (8, quantum_right) ∷ []

  abbrev shape_given : Bool
  shape_given = leb i.given (length i.state) && shape_right i.survey.tables (given_plan i) (given_state i)

  abbrev late_tests : List Test
  late_tests =
      (9, shape_given)
      ∷ (22, survey_right i.survey.number (given_state i))
      ∷ (10, places_right i.survey.tables (given_plan i) (given_state i))
      ∷ (11, threshold_right (given_plan i).ending i.threshold)
      ∷ []

  pub early_fails : (n : ℕ) → n ≡ number_of (first_failing (early_tests i.survey.tables i.plan)) → (n ≡ 0 → ⊥)
      → n ≡ number_of (first_failing (turn_tests i))
  early_fails n e h = front_decides (early_tests i.survey.tables i.plan) (own_tests i) n e h

  -- where those pass, by the ending as it was read
  module _ (z : number_of (first_failing (early_tests i.survey.tables i.plan)) ≡ 0) (e : Ending) (es : e ≡ (given_plan i).ending) (n : ℕ)
      (en : n ≡ size_number (room_right e) quantum_right) where
    state_decides : first_failing (turn_tests i) ≡ first_failing (own_tests i)
    state_decides = rest_decides (early_tests i.survey.tables i.plan) (own_tests i) (early_pass i.survey.tables i.plan z)

    size_is : n ≡ number_of (first_failing size_tests)
    size_is = rw es at en ∙ size_number_lem (room_right (given_plan i).ending) quantum_right

    pub size_fails : (n ≡ 0 → ⊥) → n ≡ number_of (first_failing (turn_tests i))
    size_fails h = front_decides size_tests late_tests n size_is h ∙ sym (ap number_of state_decides)

    pub late_decides : n ≡ 0 → (r : ℕ)
        → r ≡ late_number shape_given (survey_right i.survey.number (given_state i)) (places_right i.survey.tables (given_plan i) (given_state i))
        (threshold_right (given_plan i).ending i.threshold)
        → r ≡ number_of (first_failing (turn_tests i))
    unfolding all
    late_decides h r er =
        er
        ∙ late_number_lem shape_given (survey_right i.survey.number (given_state i)) (places_right i.survey.tables (given_plan i) (given_state i))
        (threshold_right (given_plan i).ending i.threshold)
        ∙ sym (ap number_of (state_decides ∙ rest_decides size_tests late_tests (none_fails size_tests refl (sym size_is ∙ h))))
