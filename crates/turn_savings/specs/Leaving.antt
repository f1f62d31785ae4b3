-- The state that a turn's steps leave. Assumes nothing: this is a definition.
use Rattle.std.proofs.Math.Option.{Option, none, some}
use Rattle.steps.specs.Steps.{State}
use Rattle.step_cursors.specs.declared.Cursor.{Cursor}
use Rattle.step_cursors.specs.Held.{state_of}
use Rattle.turns.specs.declared.TurnEnding.{TurnEnding}
use Rattle.turns.specs.declared.TurnEnding.TheVariants as turn

-- the state that is left at a cursor: none when done
abbrev pub left_at : TurnEnding → Cursor → Option State
left_at turn.Done c = none
left_at turn.Spent c = some (state_of c)
left_at turn.Full c = some (state_of c)
left_at (turn.Refused x) c = none
