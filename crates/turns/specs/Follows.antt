-- A served turn is steps of a run, from the state that it was given, which its threshold prunes: its state is that many steps on, and its list is
-- made of the rows of those steps alone. A served opening writes where the uncut run starts. Assumes nothing: these are definitions.
use Rattle.std.specs.Prelude.{ℕ, ◌≤◌, List, length}
use Rattle.sequences.specs.Buffers.{Overwritten}
use Rattle.calls.specs.Words.{WordsOver}
use Rattle.plans.specs.Plans.{plan_of}
use Rattle.steps.specs.Steps.{Run, after}
use Rattle.steps.specs.Saved.{saved_words, state_in}
use Rattle.step_prunings.specs.Pruning.{pruned_from}
use Rattle.lists.specs.Closing.{list_at}
use Rattle.turns.specs.Surveys.{Survey}
use Rattle.turns.specs.Opening.{open_of}
use Rattle.turns.specs.Turns.{TurnInput, given_state, given_plan, is_over, turn_of}

-- the run from the state that a turn was given, pruned by its threshold: the uncut one where it was sent none
abbrev pub given_run : TurnInput → ℕ → Run
given_run i n = pruned_from i.survey.tables (given_plan i) i.threshold (state_in (given_state i)) n

-- that run after the steps that the turn answers
abbrev pub turn_run : TurnInput → Run
turn_run i = given_run i (turn_of i).answer.steps

-- the list that a turn makes of a run: of the rows delivered, and closed where the run is over
abbrev pub list_of : TurnInput → Run → List ℕ
list_of i r = list_at (given_plan i).ending i.threshold (is_over r.state) r.delivered

pub record Follows (i : TurnInput) : Type 0 where
  -- the state buffer: the words of the state that many steps on, none at the run's end, over what it held
  pub state : Overwritten (saved_words i.survey.number (turn_run i).state) i.state (turn_of i).buffers.state (turn_of i).answer.saved
  -- the output: the list of the rows of those steps, closed at the run's end, over what it held
  pub output : Overwritten (list_of i (turn_run i)) i.output (turn_of i).buffers.output (turn_of i).answer.listed
  -- which has room for it
  pub room : (turn_of i).answer.listed ≤ length i.output

-- ---- opening
-- a served opening writes the uncut run's state after no step over the first words of its buffer
abbrev pub StartsRun : Survey → List ℕ → List ℕ → Type 0
StartsRun v plan state = WordsOver (saved_words v.number (after v.tables (plan_of plan) 0).state) state (open_of v plan state)
