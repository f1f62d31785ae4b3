-- Demand 1 of a turn, for every input: refused with a number exactly where that test is the first to fail, and then nothing is written; served
-- exactly where every test passes.
use Prim.Native.Nat.{ℕ}
use native.Mathlib.Omega.{arith}
use mathlib.Core.Path.{◌≡◌, refl, ap}
use mathlib.Core.Bool.{true}
use lib.ListN.{length}
use Rattle.words.proofs.Testing.{test_numbered, test_passed}
use Rattle.calls.specs.Calls.{RightCall, CallRefusals}
use Rattle.calls.proofs.Refusals.{call_so, call_refusals}
use Rattle.steps.specs.Saved.{saved_words}
use Rattle.turns.specs.declared.TurnEnding.TheVariants.{Done, Spent, Full, Refused}
use Rattle.turns.specs.Turns.{Progress, going, stopped, ending_of, refusal_of, values_in, values_of, TurnInput, given_plan, turn_tests, finished, served}
use Rattle.turns.specs.Turns.{TurnBuffers, turn_schema, turn_of}
use Rattle.turns.specs.Refusals.{Served}
use Rattle.turns.proofs.Stepping.{How, room_for, served_attempts}

module _ (i : TurnInput) where
  -- how the steps of a turn have come to their end
  abbrev Ends : Progress → Type 0
  Ends p = How i.survey.tables (given_plan i) i.threshold (room_for i) i.quantum p

  -- they never end in a refusal
  never_refused : (p : Progress) → Ends p → (x : ℕ) → ¬ (ending_of p ≡ Refused x)
  never_refused (going n s bs) h x e = let z : ◌≡◌ {A = ℕ} 0 1 = cc in omega arith
  never_refused (stopped Done n s bs) h x e = let z : ◌≡◌ {A = ℕ} 0 1 = cc in omega arith
  never_refused (stopped Full n s bs) h x e = let z : ◌≡◌ {A = ℕ} 0 1 = cc in omega arith
  never_refused (stopped Spent n s bs) h x e = h
  never_refused (stopped (Refused y) n s bs) h x e = h

  -- and their answer has the number 0 and the values of its ending: done has no state words
  steps_answer : (p : Progress) → Ends p
      → (refusal_of (ending_of p) ≡ 0) × (values_in (finished i p).answer ≡ values_of (finished i p).answer)
  steps_answer (going n s bs) h = (refl, refl)
  steps_answer (stopped Done n s bs) h = (refl, let e = ap (λ o. length (saved_words i.survey.number o)) h.0 in rw e)
  steps_answer (stopped Full n s bs) h = (refl, refl)
  steps_answer (stopped Spent n s bs) h = absurd h
  steps_answer (stopped (Refused y) n s bs) h = absurd h

pub turn_is_right : RightCall turn_schema
turn_is_right =
    record {
      order = λ i. refl;
      refused = λ x. refl;
      told = λ x. refl;
      empty = λ x. refl;
      serving = λ i h. never_refused i (served i) (served_attempts i).how;
      zero = λ i h. (steps_answer i (served i) (served_attempts i).how).0;
      counting = λ i h. (steps_answer i (served i) (served_attempts i).how).1;
    }

module _ (i : TurnInput) where
  pub turn_refusals : CallRefusals turn_schema i
  turn_refusals = call_refusals turn_schema turn_is_right i

  -- a refusal leaves the state and the output that were lent
  pub turn_unchanged : (x : ℕ) → (turn_of i).answer.ending ≡ Refused x
      → ((turn_of i).buffers.state ≡ i.state) × ((turn_of i).buffers.output ≡ i.output)
  turn_unchanged x e =
      let b = (turn_refusals.unchanged x e).buffers in (ap (λ (o : TurnBuffers). o.state) b, ap (λ (o : TurnBuffers). o.output) b)

  -- a test that a served turn passed, by its number
  pub turn_passed : (n : ℕ) → Served i → test_numbered n (turn_tests i) ≡ true
  turn_passed n h = test_passed n (turn_tests i) (turn_refusals.served.0 h)

  -- a turn that is served is the result of its steps
  pub turned_so : Served i → turn_of i ≡ finished i (served i)
  turned_so = call_so turn_schema turn_is_right i
