-- An entry with an accepted plan, and a state that the uncut run passes through: one that joined is, one that goes on after a turn is again, and
-- its next turn is not refused.
use Prim.Native.Nat.{ℕ, ◌+◌, ◌-◌, ◌≤◌, min}
use native.Mathlib.Omega.{arith}
use mathlib.Core.Path.{◌≡◌, refl, sym, ◌∙◌, ap, subst}
use mathlib.Core.Bool.{true}
use mathlib.Core.Option.{none}
use mathlib.Core.List.{List, [], ◌∷◌, ◌++◌}
use lib.Dec.{leb}
use lib.ListN.{length, take, drop, length-append, length-drop, length-replicate}
use lib.Seq.{take-append_seam}
use borrow.Author.Tests.{le-leb}
use Rattle.sequences.specs.Buffers.{Overwritten}
use Rattle.words.specs.Tests.{Test, first_failing, AllPass}
use Rattle.sequences.proofs.Booleans.{and_right, and_both}
use Rattle.words.proofs.Numbering.{both_pass}
use Rattle.words.proofs.Testing.{passes_all, test_passed}
use Rattle.tables.specs.Tables.{table_tests}
use Rattle.plans.specs.Plans.{read_plan, plan_of, plan_tests, has_form}
use Rattle.plans.proofs.Bounds.{was_read}
use Rattle.steps.specs.Saved.{least_state_words, shape_right, survey_right, places_right}
use Rattle.lists.specs.Gathering.{least_output, threshold_right}
use Rattle.turns.specs.Surveys.{Survey}
use Rattle.turns.specs.Turns.{TurnInput, TurnResult, most_steps, own_tests, turn_tests}
use Rattle.turns.specs.Refusals.{Served}
use Rattle.turns.proofs.Follows.{follows}
use Rattle.cuts.specs.Accepting.{Accepted, left_by}
use Rattle.cuts.proofs.States.{accepted_when_passed, left_accepted}
use Rattle.queries.specs.Playing.{InLimits}
use Rattle.queries.proofs.Refusing.{empty_right}
use Rattle.queues.specs.declared.Entry.{Entry}
use Rattle.queues.specs.Lists.{LentLists, entry_state_room, filled, entry_plan}
use Rattle.queues.specs.Joining.{Joining, new_entry, join_tests}
use Rattle.queues.specs.ToppingUp.{with_allowance}
use Rattle.queues.specs.Serving.{Serving, entry_turn, entry_after, front_turn}
use Rattle.queue_cuts.specs.InTurn.{EntryRight}
use Rattle.queue_cuts.proofs.FrontTurns.{NotDone}
use Rattle.queue_cuts.proofs.Independent.{entry_holds}

-- tests 9, 22 and 10 of some words
abbrev WordsAccepted : Survey → List ℕ → List ℕ → Type 0
WordsAccepted v plan state =
    (shape_right v.tables (plan_of plan) state ≡ true) × (survey_right v.number state ≡ true) × (places_right v.tables (plan_of plan) state ≡ true)

filled_room : (n : ℕ) (ws : List ℕ) → n ≤ length (filled n ws)
filled_room n ws = simp (length-append, length-replicate) (omega arith)

-- what is written is in the buffer, which is no shorter than it was
over_lengths : {ws before after : List ℕ} {n : ℕ} → Overwritten ws before after n → (n ≤ length after) × (length before ≤ length after)
over_lengths {ws} {before} {after} {n} o =
    let whole : length after ≡ length ws + (length before - length ws) =
    ap length o.whole ∙ length-append ws (drop (length ws) before) ∙ ap (λ (k : ℕ). length ws + k) (length-drop (length ws) before) in
    let counted = o.counted in
    (omega (arith, whole, counted), omega (arith, whole))

-- tests that pass one list after the other
pub both_passed : (xs ys : List Test) → AllPass xs → AllPass ys → AllPass (xs ++ ys)
both_passed [] ys p r = r
both_passed (x ∷ xs) ys p r = (p.0, both_passed xs ys p.1 r)

module _ (v : Survey) where
  right_by : (e : Entry) (plan state : List ℕ) → entry_plan e ≡ plan → take e.saved e.state ≡ state → e.saved ≤ length e.state
      → least_state_words ≤ length e.state → Accepted v.tables plan → WordsAccepted v plan state → EntryRight v e
  right_by e plan state is words there room a w =
      record {
        accepted = b;
        passed = λ s quantum. (accepted_when_passed (entry_turn v s e quantum) b).0
            (and_both (leb e.saved (length e.state)) _ (le-leb e.saved (length e.state) there) u.0, u.1, u.2);
        room = room;
      }
    where
      b : Accepted v.tables (entry_plan e)
      b = subst (Accepted v.tables) (sym is) a

      u : WordsAccepted v (entry_plan e) (take e.saved e.state)
      u = rw (is, words) w

  -- ---- joining
  pub joined_right : (l : LentLists) (j : Joining) → first_failing (join_tests v l j) ≡ none → EntryRight v (new_entry j)
  joined_right l j e =
      right_by (new_entry j) j.plan j.state (entry_holds j).plans (entry_holds j).words (simp length-append (omega arith)) roomy a
      (test_passed 9 (join_tests v l j) passed, test_passed 22 (join_tests v l j) passed, test_passed 10 (join_tests v l j) passed)
    where
      passed : AllPass (join_tests v l j)
      passed = passes_all (join_tests v l j) e

      a : Accepted v.tables j.plan
      a =
          record {
            tables = (both_pass (table_tests v.tables) _ e).0;
            read = was_read (read_plan j.plan) (test_passed 5 (join_tests v l j) passed);
            variables = test_passed 6 (join_tests v l j) passed;
            years = passed.1.1.1.1.1.1.1.0;
          }

      roomy : least_state_words ≤ length (new_entry j).state
      roomy = let f = filled_room entry_state_room j.state in f

  -- ---- after a turn that is not done
  pub after_right : (s : Serving) (e : Entry) → Served (entry_turn v s e (min s.quantum e.allowance)) → NotDone v s e → EntryRight v e
      → EntryRight v (entry_after e (front_turn v s e))
  after_right s e serve f h = right_by (entry_after e r) (entry_plan e) (left_by i) refl refl there roomy h.accepted left
    where
      i : TurnInput
      i = entry_turn v s e (min s.quantum e.allowance)

      r : TurnResult
      r = front_turn v s e

      there : r.answer.saved ≤ length r.buffers.state
      there = let o = over_lengths (follows i serve).state in o.0

      roomy : least_state_words ≤ length r.buffers.state
      roomy = let o = over_lengths (follows i serve).state in let g = h.room in omega (arith, o.1, g)

      left : WordsAccepted v (entry_plan e) (left_by i)
      left =
          let w = left_accepted i serve f [] 1 [] [] in
          let same : take (length (left_by i)) (left_by i ++ []) ≡ left_by i = take-append_seam (left_by i) [] in
          rw (← same) (and_right (leb (length (left_by i)) (length (left_by i ++ []))) _ w.0, w.1, w.2)

  pub topped_right : (n : ℕ) (e : Entry) → EntryRight v e → EntryRight v (with_allowance n e)
  topped_right n e h = record { accepted = h.accepted; passed = h.passed; room = h.room }

  -- ---- a turn without a threshold, whose quantum and output are in their limits, passes every test
  pub right_passes : (s : Serving) (e : Entry) → EntryRight v e → InLimits (entry_plan e) s.quantum (length s.output) → s.threshold ≡ []
      → AllPass (turn_tests (entry_turn v s e s.quantum))
  right_passes s e h w unsent =
      let i = entry_turn v s e s.quantum in
      let state = (accepted_when_passed i h.accepted).1 (h.passed s s.quantum) in
      let seven = and_both (leb least_state_words (length e.state)) (leb (least_output (plan_of (entry_plan e)).ending) (length s.output))
      (le-leb least_state_words (length e.state) h.room) (le-leb (least_output (plan_of (entry_plan e)).ending) (length s.output) w.output) in
      let eight = and_both (leb 1 s.quantum) (leb s.quantum most_steps) (le-leb 1 s.quantum w.least) (le-leb s.quantum most_steps w.most) in
      both_passed (table_tests v.tables) (plan_tests (entry_plan e) ++ own_tests i) (passes_all (table_tests v.tables) h.accepted.tables)
      (both_passed (plan_tests (entry_plan e)) (own_tests i) (ap has_form h.accepted.read, (h.accepted.variables, (h.accepted.years, tt))) (
        seven,
        (
          eight,
          (
            state.0,
            (
              state.1,
              (
                state.2,
                (ap (threshold_right (plan_of (entry_plan e)).ending) unsent ∙ empty_right (plan_of (entry_plan e)).ending, tt),
              ),
            ),
          ),
        ),
      ))
