-- One name that opens every definition of this crate, and a call's result, for proofs that compute.
use Rattle.calls.specs.Calls.{result_of_call}
use Rattle.queues.specs.Calls.{after_calls, deeds, turns_in, place_in_line, summed, left_in}

unfoldable pub computing : Unit {0}
unfolding result_of_call after_calls deeds turns_in place_in_line summed left_in
computing = tt
