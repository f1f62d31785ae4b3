-- Tests 7 and 8 of a served turn, as bounds.
use Prim.Native.Nat.{◌≤◌}
use lib.ListN.{length}
use lib.Dec.{leb}
use borrow.Author.Tests.{leb-true}
use Rattle.sequences.proofs.Booleans.{and_left, and_right}
use Rattle.steps.specs.Saved.{least_state_words}
use Rattle.lists.specs.Gathering.{least_output}
use Rattle.turns.specs.Turns.{most_steps, TurnInput, given_plan}
use Rattle.turns.specs.Refusals.{Served}
use Rattle.turns.proofs.Refusals.{turn_passed}

pub record TurnLimits (i : TurnInput) : Type 0 where
  pub state_room_fact : least_state_words ≤ length i.state
  pub output_room_fact : least_output (given_plan i).ending ≤ length i.output
  pub one_step_fact : 1 ≤ i.quantum
  pub most : i.quantum ≤ most_steps

pub turn_limits : (i : TurnInput) → Served i → TurnLimits i
turn_limits i h =
    let seven = leb least_state_words (length i.state) in
    let outputs = leb (least_output (given_plan i).ending) (length i.output) in
    let room = turn_passed i 7 h in
    let few = turn_passed i 8 h in
    record {
      state_room_fact = leb-true least_state_words (length i.state) (and_left seven outputs room);
      output_room_fact = leb-true (least_output (given_plan i).ending) (length i.output) (and_right seven outputs room);
      one_step_fact = leb-true 1 i.quantum (and_left (leb 1 i.quantum) (leb i.quantum most_steps) few);
      most = leb-true i.quantum most_steps (and_right (leb 1 i.quantum) (leb i.quantum most_steps) few);
    }
