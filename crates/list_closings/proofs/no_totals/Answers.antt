-- `no_totals` meets its contract.
use Rattle.lists.proofs.Sums.{zero_bits}
use Rattle.list_closings.proofs.no_totals.Goals as goal

pub returns : goal.returns
returns c = rw zero_bits
