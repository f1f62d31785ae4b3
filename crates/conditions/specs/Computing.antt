-- One name that opens every definition of this crate, for proofs that compute.
use Rattle.conditions.specs.Truth.{equality, inequality, comparison, truth_of}
use Rattle.conditions.specs.Evaluated.{evaluated, comparisons_in, skipped_in}

unfoldable pub computing : Unit {0}
unfolding equality inequality comparison truth_of evaluated comparisons_in skipped_in
computing = tt
