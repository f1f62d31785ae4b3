use Rattle.list_best_places.specs.Places.{PlacedUpTo}
use Rattle.list_best_places.proofs.far_back.Given as goal

abbrev pub invariant-loop-at : goal.invariant-loop-at
invariant-loop-at l = PlacedUpTo l.vars l.keys l.row l.list l.at

abbrev pub decreases-loop-at : goal.decreases-loop-at
decreases-loop-at l = l.at
