-- A served turn is steps of the run from the state that it was given, which its threshold prunes, and a served opening writes where the uncut run starts.
use Prim.Native.Nat.{ℕ, ◌≤◌}
use native.Mathlib.Omega.{arith}
use mathlib.Core.Path.{◌≡◌, sym, ◌∙◌, ap, subst⁻¹}
use mathlib.Core.List.{List, []}
use lib.ListN.{length}
use borrow.Author.Tests.{leb-true}
use Rattle.sequences.specs.Sequences.{iterate}
use Rattle.sequences.specs.Buffers.{Overwritten}
use Rattle.sequences.proofs.Buffers.{overwritten}
use Rattle.calls.proofs.Refusals.{call_so}
use Rattle.calls.proofs.Words.{words_over}
use Rattle.steps.specs.Steps.{Run, after}
use Rattle.steps.specs.Saved.{position_words, upper_words, least_state_words, saved_words}
use Rattle.lists.specs.Gathering.{gathered}
use Rattle.lists.specs.Closing.{list_at}
use Rattle.lists.proofs.OneRow.{none_fits}
use Rattle.lists.proofs.Closing.{at_room}
use Rattle.turns.specs.Surveys.{Survey}
use Rattle.turns.specs.Opening.{open_input, start_words, open_schema, open_of, Opens}
use Rattle.turns.specs.Turns.{ending_of, steps_of, left_of, rows_of, is_over, TurnInput, TurnResult, result_of, given_plan, served, turn_of}
use Rattle.turns.specs.Refusals.{Served}
use Rattle.turns.specs.Follows.{given_run, turn_run, list_of, Follows, StartsRun}
use Rattle.turns.proofs.Stepping.{has_room_lem, served_attempts, done_over}
use Rattle.turns.proofs.Opening.{open_is_right, open_passed}
use Rattle.turns.proofs.Refusals.{turned_so}
use Rattle.turns.proofs.Limits.{turn_limits}

module _ (i : TurnInput) (serve : Served i) where
  pub served_steps : (turn_of i).answer.steps ≡ steps_of (served i)
  served_steps = ap (λ (r : TurnResult). r.answer.steps) (turned_so i serve)

  pub served_ending : (turn_of i).answer.ending ≡ ending_of (served i)
  served_ending = ap (λ (r : TurnResult). r.answer.ending) (turned_so i serve)

  -- the run where the turn leaves it
  pub served_run : turn_run i ≡ record { state = left_of (served i); delivered = rows_of (served i) }
  served_run = ap (given_run i) served_steps ∙ (served_attempts i).run

  -- the result in terms of that run: its list is closed where the run is over
  served_result : turn_of i
      ≡ result_of i (ending_of (served i)) (steps_of (served i)) (saved_words i.survey.number (turn_run i).state) (list_of i (turn_run i))
  served_result =
      turned_so i serve
      ∙ ap (λ d. result_of i (ending_of (served i)) (steps_of (served i)) (saved_words i.survey.number (left_of (served i)))
      (list_at (given_plan i).ending i.threshold d (rows_of (served i)))) (done_over i)
      ∙ ap (λ (u : Run). result_of i (ending_of (served i)) (steps_of (served i)) (saved_words i.survey.number u.state) (list_of i u))
      (sym served_run)

  -- no rows have room, and so have the rows of each step that was taken
  pub rows_fit_lem : length (gathered (given_plan i).ending i.threshold (turn_run i).delivered) ≤ length i.output
  rows_fit_lem =
      let h : length (gathered (given_plan i).ending i.threshold []) ≤ length i.output =
      omega (arith, none_fits (given_plan i).ending i.threshold, (turn_limits i serve).output_room_fact) in
      subst⁻¹ (λ (u : Run). length (gathered (given_plan i).ending i.threshold u.delivered) ≤ length i.output) served_run
      ((has_room_lem i (rows_of (served i))).0 ((served_attempts i).fitted ((has_room_lem i []).1 h)))

  -- and so has the list of them that is closed, by test 7
  list_fits : length (list_of i (turn_run i)) ≤ length i.output
  list_fits =
      at_room (given_plan i).ending i.threshold (is_over (turn_run i).state) (turn_run i).delivered (length i.output)
      (turn_limits i serve).output_room_fact rows_fit_lem

  pub follows : Follows i
  follows =
      record {
        state = let ws = saved_words i.survey.number (turn_run i).state in
            subst⁻¹ (λ (r : TurnResult). Overwritten ws i.state r.buffers.state r.answer.saved) served_result (overwritten ws i.state);
        output = subst⁻¹ (λ (r : TurnResult). Overwritten (list_of i (turn_run i)) i.output r.buffers.output r.answer.listed)
            served_result (overwritten (list_of i (turn_run i)) i.output);
        room = subst⁻¹ (λ (r : TurnResult). r.answer.listed ≤ length i.output) served_result list_fits;
      }

-- ---- opening, where test 7 sees to the room
pub starts_run : (v : Survey) (plan state : List ℕ) → Opens v plan state → StartsRun v plan state
unfolding after iterate position_words upper_words
starts_run v plan state h =
    words_over (start_words (open_input v plan state)) state (open_of v plan state) (call_so open_schema open_is_right (open_input v plan state) h)
    (let l = leb-true least_state_words (length state) (open_passed v plan state 7 h) in omega arith)
