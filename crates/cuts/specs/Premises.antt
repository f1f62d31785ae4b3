-- The premise of demand 3 on thresholds, asked of served turns alone. Assumes nothing: these are definitions.
use Rattle.std.specs.Prelude.{ℕ, ◌≡◌, List, [], ◌∷◌, map}
use Rattle.plans.specs.Plans.{plan_of}
use Rattle.lists.specs.Thresholds.{Sent}
use Rattle.turns.specs.Surveys.{Survey}
use Rattle.turns.specs.Turns.{turn_of, refusal_of}
use Rattle.cuts.specs.Histories.{Event, turns, merges, joins, ServedTurn, Phone, served_in, turn_input_of, happens}

-- the lists of some served turns
abbrev pub lists_in : List ServedTurn → List (List ℕ)
lists_in xs = map (λ (x : ServedTurn). x.list) xs

-- what is asked of an event: a turn that is served was sent no threshold, or the last row of a full list merged from an empty one
-- out of earlier turns' lists, taken or not, in any order, none of them twice
abbrev pub Asked : Survey → List ℕ → Phone → Event → Type 0
Asked v plan h (turns behind quantum threshold output) =
    refusal_of (turn_of (turn_input_of v plan h behind quantum threshold output)).answer.ending ≡ 0
    → Sent (plan_of plan).ending (lists_in (served_in h)) threshold
Asked v plan h (merges behind) = Unit {0}
Asked v plan h joins = Unit {0}

abbrev pub Premises : Survey → List ℕ → Phone → List Event → Type 0
Premises v plan h [] = Unit {0}
Premises v plan h (e ∷ es) = Asked v plan h e × Premises v plan (happens v plan h e) es
