-- `read_file` meets its contract: the words of an accepted file fit the buffer.
use native.Mathlib.Omega.{arith}
use mathlib.Core.Path.{sym, ◌∙◌}
use Rattle.print_reading.proofs.LaidOut.{not_long}
use Rattle.print_reading.proofs.read_file.Goals as goal

pub read_words-requires : goal.read_words-requires
read_words-requires c =
    let l = not_long _ c.in_ok-parts.parts (sym c.layout_of.ensures ∙ c.in_ok-parts.was) in
    omega arith
