-- One name that opens every definition of this crate, for proofs that compute.
use Rattle.calls.specs.Calls.{result_of_call}
use Rattle.turns.specs.Bounded.{try_step}
use Rattle.turns.specs.Turns.{progress}

unfoldable pub computing : Unit {0}
unfolding result_of_call try_step progress
computing = tt
