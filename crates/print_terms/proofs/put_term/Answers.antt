-- `put_term` meets its contract: a blank, and the term behind it.
use native.Mathlib.Omega.{arith}
use mathlib.Core.List.{[], ◌∷◌}
use Rattle.print_texts.specs.Texts.{blank, term_text}
use Rattle.print_texts.proofs.Placements.{placed_then}
use Rattle.print_terms.proofs.put_term.Goals as goal

pub returns : goal.returns
returns c =
    let a = c.args in
    placed_then (blank ∷ []) (term_text a.word) a.at c.put_byte-next.result c.put_text.result a.line.now
    c.put_byte-next.new.line c.put_text.new.line (omega arith) c.put_byte-next.ensures
    c.put_text.ensures
