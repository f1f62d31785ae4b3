-- One name that opens every definition of this crate, for proofs that compute.
use Rattle.syntax.specs.Grammar.{cell_of}
use Rattle.syntax.specs.Machine.{fed_to, parsed}
use Rattle.syntax.specs.Building.{if_fits, pop_leaf, tree_node, built}

unfoldable pub computing : Unit {0}
unfolding cell_of fed_to parsed if_fits pop_leaf tree_node built
computing = tt
