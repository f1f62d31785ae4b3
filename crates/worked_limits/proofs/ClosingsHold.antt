-- The cases of the record of no rows hold, by computation, and so do the two cut queries.
use mathlib.Core.Path.{◌≡◌, refl}
use mathlib.Core.List.{[]}
use Rattle.cuts.specs.Computing as cuts
use Rattle.worked_cases.specs.Calls.{Hold}
use Rattle.worked_limits.specs.Faults.{record_of_none}
use Rattle.worked_limits.specs.Closings.{closings, any_stem, no_stem, totals_of_stems, played_by, done_with}
use Rattle.worked_cases.proofs.Holds.{computing}
use Rattle.worked_cases.proofs.ByOutcomes.{by_outcomes}

pub closings_hold : Hold closings
unfolding computing
closings_hold = by_outcomes closings refl

-- no row in either turn: the first list is empty, and what is kept is the record of the last
pub no_stem_cut : played_by no_stem ≡ done_with [] record_of_none
unfolding computing cuts.computing
no_stem_cut = refl

-- rows in the first turn alone: what is kept of them stays as it was
pub stems_cut : played_by any_stem ≡ done_with totals_of_stems totals_of_stems
unfolding computing cuts.computing
stems_cut = refl
