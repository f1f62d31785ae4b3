-- Every case of the tables of uploads holds, by computation.
use mathlib.Core.Path.{refl}
use Rattle.worked_cases.specs.Calls.{Hold}
use Rattle.worked_uploads.specs.Uploads.{of_stems, of_lengths, of_fates, uploads_of_years, of_orders}
use Rattle.worked_cases.proofs.Holds.{computing}
use Rattle.worked_cases.proofs.ByOutcomes.{by_outcomes}

pub of_stems_hold : Hold of_stems
unfolding computing
of_stems_hold = by_outcomes of_stems refl

pub of_lengths_hold : Hold of_lengths
unfolding computing
of_lengths_hold = by_outcomes of_lengths refl

pub of_fates_hold : Hold of_fates
unfolding computing
of_fates_hold = by_outcomes of_fates refl

pub of_years_hold : Hold uploads_of_years
unfolding computing
of_years_hold = by_outcomes uploads_of_years refl

pub of_orders_hold : Hold of_orders
unfolding computing
of_orders_hold = by_outcomes of_orders refl
