-- `table_walk_keys::pair_at` meets its contract.
use Rattle.table_walk_keys.proofs.pair_at.Goals as goal

pub returns : goal.returns
returns c = c.long.ensures
