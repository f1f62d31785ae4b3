-- `put_text` meets its contract: a dash, or a letter and the value behind it.
use native.Mathlib.Omega.{arith}
use mathlib.Core.List.{[], ◌∷◌, ◌++◌}
use mathlib.Core.Path.{◌≡◌, sym, ap, ◌∙◌}
use lib.ListN.{length}
use Rattle.print_texts.specs.Texts.{kind_letter, value_text, term_text}
use Rattle.print_texts.proofs.Placements.{placed_then}
use Rattle.print_texts.proofs.Terms.{unbound_text, bound_text}
use Rattle.print_terms.proofs.put_text.Goals as goal
use Rattle.print_terms.proofs.put_text.Goals.{After-letter_of}

-- the text of a term that is not a variable, once its letter is found
text_of : (c : After-letter_of)
    → term_text c.args.word
    ≡ (c.letter_of.result ∷ []) ++ value_text c.args.word
text_of c =
    bound_text c.args.word c.letter_of.result (sym c.is_variable.ensures ∙ c.if-is_variable.false)
    (c.letter_of.ensures ∙ ap kind_letter c.kind.ensures)

pub put_byte-requires : goal.put_byte-requires
put_byte-requires c =
    let e = ap length (unbound_text c.args.word (sym c.is_variable.ensures ∙ c.if-is_variable.true)) in
    omega arith

pub returns-then-is_variable : goal.returns-then-is_variable
returns-then-is_variable c =
    rw (unbound_text c.args.word (sym c.is_variable.ensures ∙ c.if-is_variable.true)) c.put_byte.ensures

pub put_byte-next-requires : goal.put_byte-next-requires
put_byte-next-requires c = let e = ap length (text_of c) in omega arith

pub put_value-requires : goal.put_value-requires
put_value-requires c =
    let e = ap length (text_of (goal.at.put_value-requires c).After-letter_of) in
    omega arith

pub returns : goal.returns
returns c =
    let a = c.args in
    let e = ap length (text_of (goal.at.returns c).After-letter_of) in
    rw (text_of (goal.at.returns c).After-letter_of)
    (placed_then (c.letter_of.result ∷ []) (value_text a.word) a.at c.put_byte-next.result c.put_value.result a.line.now c.put_byte-next.new.line
    c.put_value.new.line (omega arith) c.put_byte-next.ensures c.put_value.ensures)
