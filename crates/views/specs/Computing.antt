-- One name that opens every definition of this crate, for proofs that compute.
use Rattle.table_answers.specs.Computing as written
use Rattle.views.specs.Views.{admits, visible, view_rows}
use Rattle.views.specs.Viewing.{grant_right}

unfoldable pub computing : Unit {0}
unfolding admits visible view_rows grant_right written.computing
computing = tt
