-- The premises of demand 3 can be met: a finished cut with a threshold sent, and refused calls on the way.
use mathlib.Core.Path.{◌≡◌, refl}
use mathlib.Core.List.{[], ◌∷◌}
use Rattle.cuts.specs.Computing as cuts
use Rattle.cuts.specs.Histories.{fresh}
use Rattle.lists.specs.Thresholds.{absent, row}
use Rattle.cuts.specs.Premises.{Premises}
use Rattle.worked_cases.specs.Calls.{surveyed}
use Rattle.worked_cases.specs.Wood.{wood, plan_top}
use Rattle.worked_cases.specs.FinishedCut.{opened_top, events, finished_cut, expected}
use Rattle.worked_cases.proofs.Holds.{computing}

pub finishes : finished_cut ≡ expected
unfolding computing cuts.computing
finishes = refl

-- the threshold is the last row of the list of the first turn, which is full with one row
pub premises_met : Premises (surveyed wood) plan_top (fresh opened_top) events
unfolding computing cuts.computing
premises_met = (
  λ e. absent,
  (
    λ e. absent,
    (
      tt,
      (
        tt,
        (λ e. row (record { chosen = 0 ∷ []; there = refl; once = refl; full = refl; last = refl }), (tt, tt)),
      ),
    ),
  ),
)
