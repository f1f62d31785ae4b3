-- A served turn stands on the uncut run: it was given a state that the run passes through, and leaves the run some steps on.
-- Its buffers keep their lengths.
use Prim.Native.Nat.{ℕ, ◌+◌, ◌-◌, ◌≤◌, ◌<◌}
use native.Mathlib.Omega.{arith}
use native.Mathlib.Decide.{dec_lt}
use mathlib.Core.Path.{◌≡◌, sym, ◌∙◌, ap, subst}
use mathlib.Core.Bool.{true}
use mathlib.Core.Option.{Option, none, some}
use mathlib.Core.List.{List, ◌++◌}
use lib.ListN.{length}
use lib.Dec.{leb}
use Rattle.sequences.proofs.Booleans.{and_right}
use Rattle.words.proofs.Testing.{none_some, all_passes, front_passes}
use Rattle.sequences.proofs.Buffers.{length_over}
use Rattle.tables.specs.Tables.{section, table_tests}
use Rattle.tables.specs.Right.{Right}
use Rattle.tables.proofs.RightTables.{right}
use Rattle.plans.specs.Endings.{Ending, rows, top, group, registers}
use Rattle.plans.specs.Branches.{Branch}
use Rattle.plans.specs.Plans.{read_plan, plan_tests}
use Rattle.plans.proofs.Bounds.{PlanForm, plan_form, was_read}
use Rattle.plans.proofs.VariableBounds.{EndingVariables, plan_variables}
use Rattle.steps.specs.Steps.{State, Run, run_from, after}
use Rattle.steps.specs.Saved.{least_state_words, year_in, behind_year, shape_right, position_in, state_in, saved_words}
use Rattle.steps.proofs.Runs.{after_state, after_rows_lem, done_later}
use Rattle.steps.proofs.Right.{accepted_right}
use Rattle.steps.proofs.RightStates.{RightState, RightOrDone, right_from}
use Rattle.steps.proofs.YearRuns.{reached}
use Rattle.steps.proofs.SavedWords.{shape_of, words_under}
use Rattle.steps.proofs.AcceptedStates.{words_most}
use Rattle.step_prunings.proofs.OnTheRun as pruned
use Rattle.step_prunings.proofs.OnTheRun.{KeysAmong}
use Rattle.turns.specs.Turns.{TurnInput, given_state, given_plan, is_over, own_tests, turn_of}
use Rattle.turns.specs.Refusals.{Served}
use Rattle.turns.specs.Follows.{turn_run, list_of}
use Rattle.turns.specs.OnTheRun.{TakesOn, OnTheRun, KeepsLengths}
use Rattle.turns.proofs.Refusals.{turn_passed, turn_refusals}
use Rattle.turns.proofs.Follows.{follows}
use Rattle.turns.proofs.Limits.{turn_limits}
use Rattle.turns.proofs.Endings.{endings}
use Rattle.turns.proofs.Unsent.{given_unsent}

-- by test 6 a best-of ending's keys are among its variables
keys_among : (bs : List Branch) (e : Ending) → EndingVariables bs e → KeysAmong e
keys_among bs (rows vs) v = tt
keys_among bs (top k vs keys) v = v.1
keys_among bs (group vs m) v = tt
keys_among bs (registers x) v = tt

module _ (i : TurnInput) (serve : Served i) where
  pub given_form : PlanForm (given_plan i)
  given_form =
      plan_form i.plan (given_plan i) (was_read (read_plan i.plan) (turn_passed i 5 serve))

  -- the tests of the tables
  tables_right : Right i.survey.tables
  tables_right =
      right i.survey.tables (all_passes (table_tests i.survey.tables)
      (front_passes (table_tests i.survey.tables) (plan_tests i.plan ++ own_tests i) ((turn_refusals i).served.0 serve)))

  shape : shape_right i.survey.tables (given_plan i) (given_state i) ≡ true
  shape =
      and_right (leb i.given (length i.state)) (shape_right i.survey.tables (given_plan i) (given_state i))
      (turn_passed i 9 serve)

  -- tests 9 and 10
  pub given_right_lem : RightState i.survey.tables (given_plan i) (state_in (given_state i))
  given_right_lem =
      let x = shape_of i.survey.tables (given_plan i) (given_state i) shape in
      record {
        year = x.year;
        position = accepted_right (section i.survey.tables (year_in (given_state i))) (given_plan i) (position_in (behind_year (given_state i)))
            x.branch x.level (turn_passed i 10 serve);
      }

  -- its steps stand on the unpruned run from its state
  stands : pruned.PrunedOnTheRun i.survey.tables (given_plan i) i.threshold (state_in (given_state i)) (turn_of i).answer.steps
  stands =
      let v = plan_variables i.plan (given_plan i) (was_read (read_plan i.plan) (turn_passed i 5 serve)) (turn_passed i 6 serve) in
      pruned.on_the_run i.survey.tables (given_plan i) (state_in (given_state i)) (turn_of i).answer.steps
      (keys_among (given_plan i).branches (given_plan i).ending v.ending) i.threshold

  -- from any position of the uncut run at which its state is
  module _ (n : ℕ) (at : (after i.survey.tables (given_plan i) n).state ≡ some (state_in (given_state i))) where
    abbrev d : ℕ
    d = stands.distance

    not_past : (m : ℕ) → m < n + d → (after i.survey.tables (given_plan i) m).state ≡ none → ⊥
    not_past m l e =
        elim (dec_lt m n) [
          | yes f ↦ none_some (sym e ∙ sym (ap (λ (r : Run). r.state) (done_later i.survey.tables (given_plan i) m n (omega arith) e)) ∙ at)
          | no f ↦ stands.alive (λ j k. ((endings i serve).no_earlier j k).0) (m - n) (omega arith)
              (sym (after_state i.survey.tables (given_plan i) n (m - n) (state_in (given_state i)) at)
              ∙ ap (λ k. (after i.survey.tables (given_plan i) k).state) (let x : n + (m - n) ≡ m = omega arith in x)
              ∙ e)
        ]

    pub takes_on : TakesOn i n
    takes_on =
        record {
          distance = d;
          no_further = stands.no_further;
          as_far = stands.as_far;
          state = after_state i.survey.tables (given_plan i) n d (state_in (given_state i)) at ∙ stands.state;
          going = not_past;
          rows = (run_from i.survey.tables (given_plan i) (state_in (given_state i)) d).delivered;
          more = after_rows_lem i.survey.tables (given_plan i) n d (state_in (given_state i)) at;
          list = sym (stands.list (is_over (turn_run i).state));
          delivered = λ e. ap (λ (r : Run). r.delivered) (given_unsent i e (turn_of i).answer.steps)
              ∙ ap (λ m. (run_from i.survey.tables (given_plan i) (state_in (given_state i)) m).delivered) (stands.as_far e);
        }

  pub on_the_run : OnTheRun i
  on_the_run =
      let m = reached i.survey.tables (given_plan i) given_form tables_right (state_in (given_state i)) given_right_lem in
      record {
        before = m.0;
        given = m.1;
        words = sym (words_under i.survey.number i.survey.tables (given_plan i) (given_state i) shape (turn_passed i 22 serve));
        on = takes_on m.0 m.1;
      }

  -- a state of the run has at most the words that test 7 asks a buffer for
  saved_most : (o : Option State) → RightOrDone i.survey.tables (given_plan i) o → length (saved_words i.survey.number o) ≤ least_state_words
  saved_most none r = omega arith
  saved_most (some s) r =
      words_most (section i.survey.tables s.year) (given_plan i) given_form s.position r.position i.survey.number s.year

  pub keeps_lengths : KeepsLengths i
  keeps_lengths =
      let f = follows i serve in
      let m = saved_most (turn_run i).state
      (subst (RightOrDone i.survey.tables (given_plan i)) stands.state
      (right_from i.survey.tables tables_right (given_plan i) given_form (state_in (given_state i)) stands.distance given_right_lem)) in
      record {
        state =
            ap length f.state.whole
            ∙ length_over (saved_words i.survey.number (turn_run i).state) i.state (omega (arith, (turn_limits i serve).state_room_fact));
        output = ap length f.output.whole ∙ length_over (list_of i (turn_run i)) i.output (omega (arith, f.room, f.output.counted));
      }
