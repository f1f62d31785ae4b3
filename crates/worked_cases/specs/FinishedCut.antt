-- A finished query of the three-stem wood, best of 1, cut in two, with a refused turn and a refused merge between, and a threshold sent.
use Rattle.std.specs.Prelude.{List, [], ◌∷◌, replicate}
use Rattle.turns.specs.declared.TurnEnding.TheVariants.{Done, Spent}
use Rattle.calls.specs.Words.{WordsResult}
use Rattle.turns.specs.Opening.{open_of}
use Rattle.cuts.specs.Histories.{Event, turns, merges, Phone, fresh, history}
use Rattle.worked_cases.specs.Calls.{surveyed}
use Rattle.worked_cases.specs.Wood.{wood, plan_top, state_at, stem}

abbrev pub opened_top : WordsResult
opened_top = open_of (surveyed wood) plan_top (replicate 11 7)

-- 6 steps; a quantum of 0; a merge with no room; a merge; and the rest, with the last row of the full merged list as threshold
abbrev pub events : List Event
events =
    turns (replicate 7 1) 6 [] (replicate 2 9)
    ∷ turns (replicate 7 1) 0 [] (replicate 2 9)
    ∷ merges (4 ∷ [])
    ∷ merges (replicate 8 4)
    ∷ turns (replicate 8 1) 100 (stem 2 310) (replicate 3 9)
    ∷ merges []
    ∷ []

abbrev pub finished_cut : Phone
finished_cut = history (surveyed wood) plan_top (fresh opened_top) events

-- all of it: no saved words, two served turns of 6 and 4 steps, both taken, and the best stem
abbrev pub expected : Phone
expected =
    record {
      saved = [];
      taken =
          record { quantum = 6; sent = []; ending = Spent; steps = 6; list = stem 2 310; left = state_at (2 ∷ []) }
          ∷ record { quantum = 100; sent = stem 2 310; ending = Done; steps = 4; list = []; left = [] }
          ∷ [];
      waiting = [];
      kept = stem 2 310;
    }
