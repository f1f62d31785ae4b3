-- `put_number` meets its contract: a blank, and the number behind it.
use native.Mathlib.Omega.{arith}
use mathlib.Core.List.{[], ◌∷◌}
use Rattle.print_texts.specs.Texts.{blank, decimal}
use Rattle.print_texts.proofs.Placements.{placed_then}
use Rattle.print_texts.proofs.texts.put_number.Goals as goal

pub returns : goal.returns
returns c =
    let a = c.args in
    placed_then (blank ∷ []) (decimal a.x) a.at c.put_byte-next.result c.put_decimal.result a.line.now
    c.put_byte-next.new.line c.put_decimal.new.line (omega arith) c.put_byte-next.ensures
    c.put_decimal.ensures
