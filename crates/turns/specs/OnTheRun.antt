-- A served turn takes at least one step and at most its quantum, stands on the uncut run before and after, and its buffers keep
-- their lengths. Assumes nothing: these are definitions.
use Rattle.std.specs.Prelude.{ℕ, ◌+◌, ◌≤◌, ◌<◌, ◌≡◌, List, [], ◌++◌, length}
use Rattle.std.proofs.Math.Option.{none, some}
use Rattle.words.specs.Bindings.{Bindings}
use Rattle.steps.specs.Steps.{after}
use Rattle.steps.specs.Saved.{state_in, state_words}
use Rattle.lists.specs.Closing.{list_at}
use Rattle.turns.specs.Turns.{TurnInput, given_state, given_plan, is_over, turn_of}
use Rattle.turns.specs.Follows.{turn_run, list_of}

pub record Progresses (i : TurnInput) : Type 0 where
  pub least : 1 ≤ (turn_of i).answer.steps
  pub within : (turn_of i).answer.steps ≤ i.quantum

-- from a position of the uncut run, counted in steps from its start, a turn takes it on to another
pub record TakesOn (i : TurnInput) (before : ℕ) : Type 0 where
  -- the steps of the uncut run between: no fewer than the turn took, and as many where it was sent no threshold
  pub distance : ℕ
  pub no_further : (turn_of i).answer.steps ≤ distance
  pub as_far : i.threshold ≡ [] → (turn_of i).answer.steps ≡ distance
  -- the turn leaves the uncut run's state there
  pub state : (after i.survey.tables (given_plan i) (before + distance)).state ≡ (turn_run i).state
  -- which is not past the run's end
  pub going : (m : ℕ) → m < before + distance → (after i.survey.tables (given_plan i) m).state ≡ none → ⊥
  -- the rows that the uncut run delivers between
  pub rows : List Bindings
  pub more : (after i.survey.tables (given_plan i) (before + distance)).delivered
      ≡ (after i.survey.tables (given_plan i) before).delivered ++ rows
  -- the turn's list is made of them, and where it was sent no threshold they are the rows that it delivered
  pub list : list_of i (turn_run i) ≡ list_at (given_plan i).ending i.threshold (is_over (turn_run i).state) rows
  pub delivered : i.threshold ≡ [] → (turn_run i).delivered ≡ rows

pub record OnTheRun (i : TurnInput) : Type 0 where
  -- the steps of the uncut run before the turn
  pub before : ℕ
  -- it was given the words of the run's state there, under its survey's number
  pub given : (after i.survey.tables (given_plan i) before).state ≡ some (state_in (given_state i))
  pub words : given_state i ≡ state_words i.survey.number (state_in (given_state i))
  -- and takes the run on from there
  pub on : TakesOn i before

pub record KeepsLengths (i : TurnInput) : Type 0 where
  pub state : length (turn_of i).buffers.state ≡ length i.state
  pub output : length (turn_of i).buffers.output ≡ length i.output
