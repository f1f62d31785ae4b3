-- One name that opens every definition of this crate, for proofs that compute.
use Rattle.registers.specs.Registers.{given_to, register_of, registers_of, greater_of, count_at, report_on, total}

unfoldable pub computing : Unit {0}
unfolding given_to register_of registers_of greater_of count_at report_on total
computing = tt
