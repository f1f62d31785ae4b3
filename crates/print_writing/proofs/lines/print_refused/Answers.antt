-- `print_refused` hands over the line of its number.
use native.Mathlib.Omega.{arith}
use lib.ListN.{replicate}
use Rattle.print_writing.proofs.LineBytes.{line_is}
use Rattle.print_writing.proofs.lines.print_refused.Goals as goal

pub write_refused-requires : goal.write_refused-requires
write_refused-requires g c = record {
  refused_by = c.requires;
  line =
      line_is _ (replicate 256 0) c.refused_line-n.new.line c.refused_line-n.result c.refused_line-n.ensures.line (omega arith);
}
