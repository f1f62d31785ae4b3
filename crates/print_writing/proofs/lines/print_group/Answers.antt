-- `print_group` hands over the line of its record.
use native.Mathlib.Omega.{arith}
use lib.ListN.{replicate}
use Rattle.print_writing.proofs.LineBytes.{line_is}
use Rattle.print_writing.proofs.lines.print_group.Goals as goal

pub write_group-requires : goal.write_group-requires
write_group-requires g c =
    line_is _ (replicate 256 0) c.group_line-n.new.line c.group_line-n.result c.group_line-n.ensures.line (omega arith)
