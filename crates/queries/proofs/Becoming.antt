-- What one turn more makes of a query that goes on, by what it answers: it goes on again, is finished, or is stopped.
use Prim.Native.Nat.{ℕ, ◌+◌, ◌<◌}
use native.Mathlib.Omega.{arith}
use mathlib.Core.Path.{◌≡◌, refl, sym, ◌∙◌, ap, subst⁻¹}
use mathlib.Core.Bool.{true, false, cond}
use mathlib.Core.List.{List, []}
use lib.ListN.{length}
use Rattle.words.specs.declared.Written.{Written}
use Rattle.words.specs.declared.Written.TheVariants as written
use Rattle.sequences.proofs.Booleans.{absurd_true}
use Rattle.tables.specs.Tables.{Tables}
use Rattle.plans.specs.Plans.{Plan, plan_of}
use Rattle.steps.specs.Steps.{after}
use Rattle.turns.specs.Surveys.{Survey}
use Rattle.turns.specs.declared.TurnEnding.{TurnEnding}
use Rattle.turns.specs.declared.TurnEnding.TheVariants as ending
use Rattle.turns.specs.Turns.{is_done, TurnInput, turn_of}
use Rattle.calls.specs.Words.{WordsResult}
use Rattle.cuts.specs.Histories.{Phone, ServedTurn, steps_in, served_of}
use Rattle.cuts.specs.Uncut.{run_fits}
use Rattle.cuts.specs.Accepting.{Accepted}
use Rattle.cuts.proofs.Keeping.{Kept}
use Rattle.queries.specs.declared.Keeping.{Keeping}
use Rattle.queries.specs.declared.Went.{Went}
use Rattle.queries.specs.declared.Went.TheVariants.{On, Over, Stopped}
use Rattle.queries.specs.Stepping.{is_served, left_as_is, list_taken, taken_by, take_turn_of, went_as, went_of}
use Rattle.queries.specs.Playing.{Turns, Cause}
use Rattle.queries.proofs.UnderWay.{UnderWay}
use Rattle.queries.proofs.Refusing.{turn_stopped}
use Rattle.queries.proofs.Advancing as advancing
use Rattle.queries.proofs.Leaving.{GoesAhead, Becomes}
use Rattle.queries.proofs.Leaving as leaving
use Rattle.queries.proofs.ListTaken as taking

module _ (keep : Keeping) (v : Survey) (plan : List ℕ) (a : Accepted v.tables plan) (first : Phone)
    (k : Kept v (plan_of plan) first) (before : List ℕ) where
  abbrev t : Tables
  t = v.tables

  abbrev q : Plan
  q = plan_of plan

  module _ (quantum most count : ℕ) (fewer : count < most) (output state : List ℕ) (saved : ℕ) (kept : List ℕ) (used : ℕ)
      (g : GoesAhead keep v plan first before quantum (length output) count state saved kept used) where
    abbrev u : UnderWay keep v plan first before count state saved kept used
    u = g.under

    abbrev i : TurnInput
    i = record { survey = v; plan = plan; state = state; given = saved; quantum = quantum; threshold = []; output = output }

    -- the steps of the lists taken so far
    abbrev n : ℕ
    n = steps_in u.held.taken

    abbrev m : WordsResult
    m = taken_by keep i (turn_of i) kept used

    abbrev x : ServedTurn
    x = served_of quantum [] (turn_of i)

    abbrev Taken : List ℕ → Written → Type 0
    Taken = taking.TakenAs keep v plan a first k before quantum count output state saved kept used g

    abbrev Then : List ℕ → List ℕ → Went → Type 0
    Then now left w = Becomes keep v plan first before quantum most (length output) count now left w

    stopped : (y : ℕ) (left : List ℕ) → (left ≡ kept) × Cause keep t plan quantum (length output) before n y
        → Then (turn_of i).buffers.state left (Stopped y)
    stopped y left p =
        leaving.stops keep v plan a first k before count state saved kept used u quantum most (length output) fewer g.made left y
        p.1 p.0

    -- the list of a turn is taken: the query goes on, or is over
    module _ (e : TurnEnding) (f : (turn_of i).answer.ending ≡ e) (s : is_served e ≡ true) (words : ℕ) (p : Taken m.buffers (written.Words words)) where
      made_then : Turns t plan quantum (length output) (count + 1) (steps_in p.0.held.taken)
      made_then =
          subst⁻¹ (Turns t plan quantum (length output) (count + 1)) p.2
          (taking.made_more keep v plan a first k before quantum count output state saved kept used g (ap is_served f ∙ s)
          (ap (λ j. run_fits q.ending (after t q j)) (sym p.2) ∙ p.0.fits))

      goes : is_done e ≡ false → Then (turn_of i).buffers.state m.buffers (On (turn_of i).answer.saved words)
      goes d =
          record {
            under = p.0;
            alive = leaving.not_over keep v plan a first k before (count + 1) _ _ _ words p.0 (p.1 ∙ ap is_done f ∙ d);
            made = made_then;
          }

      over_then : is_done e ≡ true → Then (turn_of i).buffers.state m.buffers (Over words)
      over_then d =
          record {
            count = count + 1;
            allowed = omega arith;
            steps = steps_in p.0.held.taken;
            made = made_then;
            ends = leaving.ends keep v plan a first k before (count + 1) _ _ _ words p.0 (p.1 ∙ ap is_done f ∙ d);
            list = leaving.holds keep v plan a first k before (count + 1) _ _ _ words p.0;
          }

    by_taking : (e : TurnEnding) → (turn_of i).answer.ending ≡ e → is_served e ≡ true → (w : Written) → Taken m.buffers w
        → Then (turn_of i).buffers.state m.buffers (went_as e (turn_of i).answer.saved w)
    by_taking e f s (written.Refused y) p = stopped y m.buffers p
    by_taking ending.Done f s (written.Words words) p = over_then ending.Done f s words p refl
    by_taking ending.Spent f s (written.Words words) p = goes ending.Spent f s words p refl
    by_taking ending.Full f s (written.Words words) p = goes ending.Full f s words p refl
    by_taking (ending.Refused y) f s (written.Words words) p = absurd_true s refl

    module _ (e : TurnEnding) (f : (turn_of i).answer.ending ≡ e) where
      served_becomes : is_served e ≡ true → Then (turn_of i).buffers.state m.buffers (went_as e (turn_of i).answer.saved m.answer)
      served_becomes s = by_taking e f s m.answer
          (taking.list_taken_lem keep v plan a first k before quantum count output state saved kept used g (ap is_served f ∙ s))

      -- nothing is taken of a turn that is refused
      not_taken : is_served e ≡ false → m ≡ left_as_is kept used
      not_taken s = ap (λ b. cond b (list_taken keep plan kept used x.list) (left_as_is kept used)) (ap is_served f ∙ s)

    turn_cause : (y : ℕ) → (turn_of i).answer.ending ≡ ending.Refused y → Cause keep t plan quantum (length output) before n y
    turn_cause y f =
        turn_stopped i a (advancing.given_passed keep v plan a first k before count state saved kept used u quantum output g.alive) u.state_room_fact
        refl keep before n y f

    by_ending_lem : (e : TurnEnding) → (turn_of i).answer.ending ≡ e
        → Then (turn_of i).buffers.state m.buffers (went_as e (turn_of i).answer.saved m.answer)
    by_ending_lem ending.Done f = served_becomes ending.Done f refl
    by_ending_lem ending.Spent f = served_becomes ending.Spent f refl
    by_ending_lem ending.Full f = served_becomes ending.Full f refl
    by_ending_lem (ending.Refused y) f =
        subst⁻¹ (λ (r : WordsResult). Then (turn_of i).buffers.state r.buffers (went_as (ending.Refused y) (turn_of i).answer.saved r.answer))
        (not_taken (ending.Refused y) f refl) (stopped y kept (refl, turn_cause y f))

    pub becomes : Then (take_turn_of keep i kept used).state (take_turn_of keep i kept used).kept (went_of (take_turn_of keep i kept used).answer)
    unfolding take_turn_of
    becomes = by_ending_lem (turn_of i).answer.ending refl
