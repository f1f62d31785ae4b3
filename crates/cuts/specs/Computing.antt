-- One name that opens every definition of this crate, for proofs that compute.
use Rattle.cuts.specs.Histories.{steps_in, done_in, happens, history}
use Rattle.cuts.specs.TurnRows.{delivered_in}

unfoldable pub computing : Unit {0}
unfolding steps_in done_in happens history delivered_in
computing = tt
