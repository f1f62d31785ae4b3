-- `put_total` meets its contract.
use Rattle.print_lines.proofs.groups.put_total.Goals as goal

pub put_number-requires : goal.put_number-requires
put_number-requires c = rw c.read64.ensures c.requires.1

pub returns : goal.returns
returns c = rw c.read64.ensures at c.put_number.ensures
