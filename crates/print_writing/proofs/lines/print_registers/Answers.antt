-- `print_registers` hands over the line of its list, which 256 bytes hold.
use borrow.Author.Rules.{rules}
use native.Mathlib.Omega.{arith}
use lib.ListN.{replicate}
use Rattle.print_lines.proofs.Lengths.{list_most}
use Rattle.print_writing.proofs.LineBytes.{line_is}
use Rattle.print_writing.proofs.lines.print_registers.Goals as goal

pub list_line-n-requires : goal.list_line-n-requires
list_line-n-requires g c =
    omega (arith, list_most c.args.list.now (search rules), c.requires)

pub write_list-requires : goal.write_list-requires
write_list-requires g c =
    let e = list_most c.args.list.now (search rules) in
    line_is _ (replicate 256 0) c.list_line-n.new.line c.list_line-n.result c.list_line-n.ensures (omega (arith, e, c.requires, c.list_line-n.ensures.0))
