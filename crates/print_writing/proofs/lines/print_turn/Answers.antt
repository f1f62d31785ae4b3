-- `print_turn` hands over the line of its turn.
use native.Mathlib.Omega.{arith}
use lib.ListN.{replicate}
use Rattle.print_writing.proofs.LineBytes.{line_is}
use Rattle.print_writing.proofs.lines.print_turn.Goals as goal

pub write_turn-requires : goal.write_turn-requires
write_turn-requires g c = record
    { turn_shown = c.requires; line = line_is _ (replicate 256 0) c.turn_line-n.new.line c.turn_line-n.result c.turn_line-n.ensures.line (omega arith) }
