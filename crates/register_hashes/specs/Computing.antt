-- One name that opens every definition of this crate, for proofs that compute.
use Rattle.std.specs.Int.Count.{count_leading_zeros}
use Rattle.register_hashes.specs.Hashes.{mixed, hash_of, rank_in}

unfoldable pub computing : Unit {0}
unfolding mixed hash_of rank_in count_leading_zeros
computing = tt
