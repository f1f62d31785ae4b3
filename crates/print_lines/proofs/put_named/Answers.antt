-- `put_named` meets its contract: the word, and the number behind it.
use native.Mathlib.Omega.{arith}
use Rattle.print_texts.specs.Texts.{number_field}
use Rattle.print_texts.proofs.Placements.{placed_then}
use Rattle.print_lines.proofs.put_named.Goals as goal

pub returns : goal.returns
returns c =
    let a = c.args in
    placed_then a.name.now (number_field a.x) a.at c.put_bytes-next.result c.put_number.result
    a.line.now c.put_bytes-next.new.line c.put_number.new.line (omega arith) c.put_bytes-next.ensures
    c.put_number.ensures
