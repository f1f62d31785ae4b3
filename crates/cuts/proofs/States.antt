-- A saved state is accepted exactly when the uncut run over this survey passes through it: over the raw words of any buffer and given length. So the
-- state that a turn leaves is accepted, whatever threshold pruned it.
use Prim.Native.Nat.{ℕ, ◌+◌}
use native.Mathlib.Omega.{arith}
use mathlib.Core.Path.{◌≡◌, refl, ◌∙◌, ap}
use mathlib.Core.Logic.{◌↔◌}
use mathlib.Core.Bool.{true}
use mathlib.Core.Option.{Option, none, some}
use mathlib.Core.List.{List, ◌++◌}
use lib.Dec.{leb}
use lib.ListN.{length, length-append}
use lib.Seq.{take-append_seam}
use borrow.Author.Tests.{leb-true, le-leb}
use Rattle.sequences.proofs.Booleans.{and_left, and_right, and_both}
use Rattle.words.proofs.Testing.{all_passes, front_passes, rest_passes}
use Rattle.tables.specs.Tables.{table_tests}
use Rattle.plans.specs.Plans.{read_plan, plan_tests}
use Rattle.plans.proofs.Bounds.{was_read}
use Rattle.steps.specs.Steps.{State}
use Rattle.steps.specs.Saved.{saved_words, shape_right, survey_right, places_right}
use Rattle.steps.proofs.AcceptedStates.{RunPasses, accepted_iff}
use Rattle.turns.specs.declared.TurnEnding.TheVariants.{Done}
use Rattle.turns.specs.Turns.{TurnInput, given_state, given_plan, own_tests, turn_of}
use Rattle.turns.specs.Refusals.{Served}
use Rattle.turns.specs.Follows.{turn_run}
use Rattle.turns.proofs.Refusals.{turn_passed, turn_refusals}
use Rattle.turns.proofs.Follows.{follows}
use Rattle.turns.proofs.Progress.{progresses}
use Rattle.turns.proofs.Endings.{endings}
use Rattle.turns.proofs.OnTheRun.{on_the_run}
use Rattle.cuts.specs.Accepting.{Accepted, Passed, StateAccepted, left_by, resumed}

pub accepted_when_passed : (i : TurnInput) → Accepted i.survey.tables i.plan → StateAccepted i ↔ Passed i
accepted_when_passed i a = (
  λ x. let p = both.0 (and_right (leb i.given (length i.state)) _ x.0, x.1, x.2) in
      record {
        there = leb-true i.given (length i.state) (and_left (leb i.given (length i.state)) _ x.0);
        few = p.0;
        steps = p.1.0;
        state = p.1.1;
        passes = p.1.2;
        words = p.1.3;
      },
  λ p. let x = both.1 (p.few, (p.steps, p.state, p.passes, p.words)) in
      (and_both (leb i.given (length i.state)) _ (le-leb i.given (length i.state) p.there) x.0, x.1, x.2),
)
  where
    both : ((shape_right i.survey.tables (given_plan i) (given_state i) ≡ true) × (survey_right i.survey.number (given_state i) ≡ true)
        × (places_right i.survey.tables (given_plan i) (given_state i) ≡ true))
        ↔ RunPasses i.survey.tables i.plan (given_plan i) a.tables a.read i.survey.number (given_state i)
    both = accepted_iff i.survey.tables i.plan (given_plan i) a.tables a.read i.survey.number (given_state i)

-- ---- the state that a turn leaves
module _ (i : TurnInput) (serve : Served i) where
  -- what a turn that is served says of its tables and its plan
  pub turn_accepts : Accepted i.survey.tables i.plan
  turn_accepts =
      let passed = (turn_refusals i).served.0 serve in
      record {
        tables = all_passes (table_tests i.survey.tables) (front_passes (table_tests i.survey.tables) (plan_tests i.plan ++ own_tests i) passed);
        read = was_read (read_plan i.plan) (turn_passed i 5 serve);
        variables = turn_passed i 6 serve;
        years = (front_passes (plan_tests i.plan) (own_tests i) (rest_passes (table_tests i.survey.tables) (plan_tests i.plan ++ own_tests i) passed)
            ).1.1.0;
      }

  -- it is one of the uncut run, where the turn is not done
  pub left_accepted : ¬ ((turn_of i).answer.ending ≡ Done) → (behind : List ℕ) (quantum : ℕ) (threshold output : List ℕ)
      → StateAccepted (resumed i behind quantum threshold output)
  left_accepted f behind quantum threshold output = go (turn_run i).state refl
    where
      -- the tests of the state that the turn was given
      was : Passed i
      was = (accepted_when_passed i turn_accepts).0 (turn_passed i 9 serve, turn_passed i 22 serve, turn_passed i 10 serve)

      go : (o : Option State) → (turn_run i).state ≡ o → StateAccepted (resumed i behind quantum threshold output)
      go none e =
          absurd (f ((endings i serve).done.1
          (record { over = e; within = (progresses i serve).within; no_state = (endings i serve).no_words.1 e })))
      go (some s) e =
          let run = on_the_run i serve in
          (accepted_when_passed (resumed i behind quantum threshold output) turn_accepts).1
          (record {
            there = omega (arith, length-append (left_by i) behind);
            few = was.few;
            steps = run.before + run.on.distance;
            state = s;
            passes = run.on.state ∙ e;
            words = take-append_seam (left_by i) behind ∙ (follows i serve).state.front ∙ ap (saved_words i.survey.number) e;
          })
