-- What an adviser gets from queries over some tables. Assumes nothing: these are definitions.
use Rattle.std.specs.Prelude.{ℕ, ◌≡◌, List}
use Rattle.tables.specs.Tables.{Tables}
use Rattle.turns.specs.Surveys.{under_number}
use Rattle.turns.specs.Opening.{open_of}
use Rattle.turns.specs.Turns.{TurnInput, turn_of}
use Rattle.queues.specs.Lists.{LentLists}
use Rattle.queues.specs.Joining.{Joining, join_queue_of}
use Rattle.queues.specs.Serving.{Serving, serve_of}
use Rattle.table_answers.specs.Writing.{tables_left}
use Rattle.views.specs.Viewing.{ViewInput, view_call_of}

-- a turn over some tables, under a survey's number
abbrev pub turn_over : ℕ → List ℕ → List ℕ → ℕ → ℕ → List ℕ → List ℕ → Tables → TurnInput
turn_over number plan state given quantum threshold output t =
    record { survey = under_number number t; plan = plan; state = state; given = given; quantum = quantum; threshold = threshold; output = output }

-- every opening, every turn, every join and every serving over two tables, under one number, answers the same and leaves the same in its buffers
-- and lists: so the same rows, steps and saved words
pub record SameQueries (v w : Tables) : Type 0 where
  pub opens : (number : ℕ) (plan state : List ℕ) → open_of (under_number number v) plan state ≡ open_of (under_number number w) plan state
  pub turns : (number : ℕ) (plan state : List ℕ) (given quantum : ℕ) (threshold output : List ℕ)
      → turn_of (turn_over number plan state given quantum threshold output v) ≡ turn_of (turn_over number plan state given quantum threshold output w)
  pub joins : (number : ℕ) (l : LentLists) (j : Joining) → join_queue_of (under_number number v) l j ≡ join_queue_of (under_number number w) l j
  pub serves : (number : ℕ) (l : LentLists) (s : Serving) → serve_of (under_number number v) l s ≡ serve_of (under_number number w) l s

-- two view calls answer and write the same, and so do all queries over what they write
pub record SameToAdviser (i j : ViewInput) : Type 0 where
  pub call : view_call_of i ≡ view_call_of j
  pub queries : SameQueries (tables_left (view_call_of i)) (tables_left (view_call_of j))
