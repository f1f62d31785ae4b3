-- `rank_in` meets its contract: the zeros leading 60 bits are four fewer than of 64.
use Rattle.std.proofs.Common.{◌%◌, arith}
use Rattle.register_hashes.specs.Hashes.{rank_in}
use Rattle.register_hashes.proofs.Ranks.{leading_more}
use Rattle.register_hashes.proofs.rank_in.Goals as goal

pub overflow_sub-result : goal.overflow_sub-result
overflow_sub-result c = let e = leading_more (c.args.hash % 1152921504606846976) (omega arith) in omega (arith, e)

pub returns : goal.returns
unfolding rank_in
returns c = let e = leading_more (c.args.hash % 1152921504606846976) (omega arith) in omega (arith, e)
