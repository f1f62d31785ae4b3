-- When a turn is served. Assumes nothing: this is a definition.
use Rattle.calls.specs.Calls.{NotRefused}
use Rattle.turns.specs.Turns.{TurnInput, turn_schema}

-- a served turn is one that is not refused
abbrev pub Served : TurnInput → Type 0
Served i = NotRefused turn_schema i
