-- Every case of the table of pruning at later patterns holds, by computation.
use mathlib.Core.Path.{refl}
use Rattle.worked_cases.specs.Calls.{Hold}
use Rattle.worked_cases.specs.DeepPrunings.{of_later_patterns}
use Rattle.worked_cases.proofs.Holds.{computing}
use Rattle.worked_cases.proofs.ByOutcomes.{by_outcomes}

pub later_patterns_hold : Hold of_later_patterns
unfolding computing
later_patterns_hold = by_outcomes of_later_patterns refl
