-- One name that opens every definition of this crate, for proofs that compute.
use Rattle.table_answers.specs.Computing as written
use Rattle.woods.specs.Woods.{wood_rows}
use Rattle.woods.specs.Growing.{asked_right}

unfoldable pub computing : Unit {0}
unfolding wood_rows asked_right written.computing
computing = tt
