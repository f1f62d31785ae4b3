-- `put_group_sum` meets its contract.
use Rattle.print_lines.proofs.groups.put_group_sum.Goals as goal

pub put_sum-requires : goal.put_sum-requires
put_sum-requires c = rw c.read64.ensures c.requires.1

pub returns : goal.returns
returns c = rw c.read64.ensures at c.put_sum.ensures
