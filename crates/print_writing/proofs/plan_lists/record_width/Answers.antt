-- `record_width` meets its contract, kind by kind.
use Rattle.print_writing.proofs.plan_lists.record_width.Goals as goal

pub returns-in-Group : goal.returns-in-Group
returns-in-Group c = rw c.in-Group.is
