-- One name that opens every definition of this crate, and a call's result, for proofs that compute.
use Rattle.calls.specs.Calls.{result_of_call}
use Rattle.table_answers.specs.Writing.{tables_room}

unfoldable pub computing : Unit {0}
unfolding result_of_call tables_room
computing = tt
