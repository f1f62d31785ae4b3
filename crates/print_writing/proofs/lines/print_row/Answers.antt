-- `print_row` hands over the line of its row.
use native.Mathlib.Omega.{arith}
use lib.ListN.{replicate}
use Rattle.print_writing.proofs.LineBytes.{line_is}
use Rattle.print_writing.proofs.lines.print_row.Goals as goal

pub write_row-requires : goal.write_row-requires
write_row-requires g c =
    let x = c.row_line-n in
    line_is _ (replicate 256 0) x.new.line x.result x.ensures.line (omega arith)
