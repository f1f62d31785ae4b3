-- One name that opens every definition of this crate, for proofs that compute.
use Rattle.calls.specs.Calls.{result_of_call}
use Rattle.uploads.specs.Uploads.{same_row, fate_of, made_rows, dropped_report}
use Rattle.uploads.specs.Making.{upload_right, make_room_right}

unfoldable pub computing : Unit {0}
unfolding same_row fate_of made_rows dropped_report upload_right make_room_right result_of_call
computing = tt
