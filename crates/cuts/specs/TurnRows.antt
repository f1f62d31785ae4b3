-- The rows that the turns of a history delivered, joined in order: where no threshold was sent they are the uncut run's. Assumes nothing: these are
-- definitions.
use Rattle.std.specs.Prelude.{ℕ, List, [], ◌∷◌, ◌++◌}
use Rattle.words.specs.Bindings.{Bindings}
use Rattle.turns.specs.Surveys.{Survey}
use Rattle.turns.specs.declared.TurnEnding.{TurnEnding}
use Rattle.turns.specs.declared.TurnEnding.TheVariants as ending
use Rattle.turns.specs.Turns.{TurnInput, turn_of, served, rows_of}
use Rattle.cuts.specs.Histories.{Event, turns, merges, joins, Phone, turn_input_of, happens}

-- by what a turn answered: the rows that its own steps delivered, of which its list is made; none of a refused one
abbrev pub delivered_in_turn : TurnInput → TurnEnding → List Bindings
delivered_in_turn i ending.Done = rows_of (served i)
delivered_in_turn i ending.Spent = rows_of (served i)
delivered_in_turn i ending.Full = rows_of (served i)
delivered_in_turn i (ending.Refused x) = []

-- merges and joins deliver nothing
abbrev pub delivered_in_event : Survey → List ℕ → Phone → Event → List Bindings
delivered_in_event v plan h (turns behind quantum threshold output) =
    delivered_in_turn (turn_input_of v plan h behind quantum threshold output)
    (turn_of (turn_input_of v plan h behind quantum threshold output)).answer.ending
delivered_in_event v plan h (merges behind) = []
delivered_in_event v plan h joins = []

unfoldable pub delivered_in : Survey → List ℕ → Phone → List Event → List Bindings
delivered_in v plan h [] = []
delivered_in v plan h (e ∷ es) = delivered_in_event v plan h e ++ delivered_in v plan (happens v plan h e) es
