-- After done every turn of a history is refused. Assumes nothing: these are definitions.
use Rattle.std.specs.Prelude.{ℕ, ◌≡◌, List}
use Rattle.turns.specs.Surveys.{Survey}
use Rattle.turns.specs.AfterDone.{NoStateRefused}
use Rattle.cuts.specs.Histories.{Event, turns, Phone, served_in, turn_input_of, happens, history}

-- whatever turns, merges and joins come after, with no premise on them: no further turn is served, and each is refused, by 9 at the latest,
-- and leaves all as it was
pub record NoTurnServed (v : Survey) (plan : List ℕ) (h : Phone) : Type 0 where
  pub served : (later : List Event) → served_in (history v plan h later) ≡ served_in h
  pub refused : (later : List Event) (behind : List ℕ) (quantum : ℕ) (threshold output : List ℕ)
      → NoStateRefused (turn_input_of v plan (history v plan h later) behind quantum threshold output)
  pub unmoved : (later : List Event) (behind : List ℕ) (quantum : ℕ) (threshold output : List ℕ)
      → happens v plan (history v plan h later) (turns behind quantum threshold output) ≡ history v plan h later
