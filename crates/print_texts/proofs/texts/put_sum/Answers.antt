-- `put_sum` meets its contract: a blank, and the sum behind it.
use native.Mathlib.Omega.{arith}
use mathlib.Core.List.{[], ◌∷◌}
use Rattle.lists.specs.Sums.{sum_in}
use Rattle.print_texts.specs.Texts.{blank, integer_text}
use Rattle.print_texts.proofs.Placements.{placed_then}
use Rattle.print_texts.proofs.texts.put_sum.Goals as goal

pub put_signed-requires : goal.put_signed-requires
put_signed-requires c = (omega arith, omega arith)

pub returns : goal.returns
returns c =
    let a = c.args in
    placed_then (blank ∷ []) (integer_text (sum_in a.bits)) a.at c.put_byte-next.result c.put_signed.result a.line.now
    c.put_byte-next.new.line c.put_signed.new.line (omega arith) c.put_byte-next.ensures
    c.put_signed.ensures
