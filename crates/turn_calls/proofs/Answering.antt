-- What a turn answers and leaves: by the number of the first test that fails, or by its steps.
use Prim.Native.Nat.{ℕ}
use mathlib.Core.Path.{◌≡◌, sym, ◌∙◌, ap, subst}
use mathlib.Core.Option.{none, some}
use mathlib.Core.List.{List}
use lib.ListN.{length}
use Rattle.sequences.specs.Sequences.{over}
use Rattle.words.specs.Tests.{first_failing}
use Rattle.calls.specs.Calls.{AnswersRight}
use Rattle.calls.proofs.Refusals.{by_number_lem, by_none, call_told}
use Rattle.steps.specs.Steps.{State}
use Rattle.steps.specs.Saved.{saved_words, state_in}
use Rattle.turns.specs.declared.TurnEnding.{TurnEnding}
use Rattle.turns.specs.declared.TurnEnding.TheVariants.{Refused}
use Rattle.turns.specs.declared.Turned.{Turned}
use Rattle.turn_runs.specs.declared.Ran.{Ran}
use Rattle.turns.specs.Turns.{Progress, ending_of, steps_of, progress, fits_in, TurnInput, given_plan, given_state, finished, served}
use Rattle.turns.specs.Turns.{turn_tests, turn_result, turn_schema, turn_of}
use Rattle.turns.proofs.Refusals.{turn_is_right}
use Rattle.turn_savings.specs.Leaving.{left_at}
use Rattle.turn_runs.specs.Running.{Runnable, Runs, answer_of}
use Rattle.turn_tests.proofs.Numbering.{AcceptedTurn}

-- the answer, the state buffer and the output are those of the definition
abbrev pub Answers : TurnInput → Turned → List ℕ → List ℕ → Type 0
Answers i answer state output = turn_result answer state output ≡ turn_of i

same_answer : (a b : ℕ) (x y : TurnEnding) (c d e f : ℕ) → a ≡ b → x ≡ y → c ≡ d → e ≡ f
    → ◌≡◌ {A = Turned} (record { steps = a; ending = x; saved = c; listed = e }) (record { steps = b; ending = y; saved = d; listed = f })
same_answer a b x y c d e f p q r s = rw (p, q, r, s)

same_result : (a b : Turned) (s t o u : List ℕ) → a ≡ b → s ≡ t → o ≡ u
    → turn_result a s o ≡ turn_result b t u
same_result a b s t o u p q r = rw (p, q, r)

module _ (i : TurnInput) where
  pub refuses : (n : ℕ) → first_failing (turn_tests i) ≡ some n
      → Answers i (record { steps = 0; ending = Refused n; saved = 0; listed = 0 }) i.state i.output
  refuses n e = sym (by_number_lem turn_schema turn_is_right i n e)

  -- by the steps of some progress
  by_steps : (p : Progress) → turn_of i ≡ finished i p → (r : Ran) (after : List ℕ) → Runs (given_plan i).ending i.threshold p i.output after r
      → Answers i (answer_of i.survey.number r) (over (saved_words i.survey.number (left_at r.ending r.next)) i.state) after
  by_steps p e r after k =
      let w = ap (saved_words i.survey.number) (sym k.left) in
      let a = same_answer r.steps (steps_of p) r.ending (ending_of p) _ _ r.used _ k.steps k.ending (ap length w) k.listed.0 in
      same_result (answer_of i.survey.number r) _ _ _ after _ a (ap (λ ws. over ws i.state) w) k.listed.1 ∙ sym e

  -- those of a turn start at the given state
  abbrev run_for : State → Progress
  run_for s = progress i.survey.tables (given_plan i) i.threshold (fits_in (given_plan i).ending i.threshold (length i.output)) i.quantum s

  pub serves : first_failing (turn_tests i) ≡ none → (s : State) → s ≡ state_in (given_state i) → (r : Ran) (after : List ℕ)
      → Runs (given_plan i).ending i.threshold (run_for s) i.output after r
      → Answers i (answer_of i.survey.number r) (over (saved_words i.survey.number (left_at r.ending r.next)) i.state) after
  serves e s h r after u =
      by_steps (served i) (by_none turn_schema turn_is_right i e) r after
      (subst (λ (x : State). Runs (given_plan i).ending i.threshold (run_for x) i.output after r) h u)

  -- what equals the definition's result has its number and its values
  pub turn_told : {r : Turned} {state output : List ℕ} → Answers i r state output → Answers i r state output × AnswersRight turn_schema i r
  turn_told = call_told turn_schema turn_is_right i

  pub runnable : AcceptedTurn i → Runnable i.plan i.threshold i.output i.quantum
  runnable a = record { variables = a.variables; sent = a.sent; room = a.room; few = a.few }
