-- `eight_at` meets its contract: two numbers of four bytes.
use Rattle.dictionary_searches.proofs.BigEndian.{two_fours}
use Rattle.dictionary_searches.proofs.eights.eight_at.Goals as goal

pub returns : goal.returns
returns c =
    two_fours c.args.bytes.now c.args.i _ _ c.requires c.four-high.ensures.0 c.four-low.ensures.0
