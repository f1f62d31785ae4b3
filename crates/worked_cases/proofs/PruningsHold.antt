-- Every case of the tables of pruning holds, by computation; and a query finished with a threshold keeps what it keeps without.
use mathlib.Core.Path.{◌≡◌, refl}
use mathlib.Core.List.{[], ◌∷◌}
use Rattle.cuts.specs.Computing as cuts
use Rattle.cuts.specs.Histories.{fresh}
use Rattle.cuts.specs.Premises.{Premises}
use Rattle.lists.specs.Thresholds.{absent, row}
use Rattle.worked_cases.specs.Wood.{wood, stem}
use Rattle.worked_cases.specs.Calls.{Hold, surveyed}
use Rattle.worked_cases.specs.Prunings.{largest, of_prunings, of_known_keys, opened_largest, events_with, played_with, finished_with}
use Rattle.worked_cases.proofs.Holds.{computing}
use Rattle.worked_cases.proofs.ByOutcomes.{by_outcomes}

-- six steps, and then two instead of four
pub prunings_hold : Hold of_prunings
unfolding computing
prunings_hold = by_outcomes of_prunings refl

-- known keys, unknown ones and those that are never bound
pub known_keys_hold : Hold of_known_keys
unfolding computing
known_keys_hold = by_outcomes of_known_keys refl

-- the calls of the query: 6 and 2 steps with the threshold, 6 and 4 without, and the same list
pub pruned_finishes : played_with (stem 2 310) ≡ finished_with (stem 2 310) 2 []
unfolding computing cuts.computing
pruned_finishes = refl

pub unpruned_finishes : played_with [] ≡ finished_with [] 4 (stem 3 310)
unfolding computing cuts.computing
unpruned_finishes = refl

-- the threshold is one that demand 3 permits
pub sent_permitted : Premises (surveyed wood) largest (fresh opened_largest) (events_with (stem 2 310))
unfolding computing cuts.computing
sent_permitted = (
  λ e. absent,
  (
    tt,
    (λ e. row (record { chosen = 0 ∷ []; there = refl; once = refl; full = refl; last = refl }), (tt, tt)),
  ),
)
