-- `mix` meets its contract: the product is taken after the exclusive-or.
use Rattle.register_hashes.specs.Hashes.{mixed}
use Rattle.register_hashes.proofs.mix.Goals as goal

pub returns : goal.returns
unfolding mixed
returns c = c.wrapping_mul.ensures.wraps
