-- `iri_mark` meets its contract: one mark after the other.
use mathlib.Core.Path.{◌∙◌, ap}
use mathlib.Core.Bool.{cond}
use lib.Dec.{eqb, leb}
use Rattle.dictionary_tests.proofs.Marks.{low_byte, mark_says}
use Rattle.dictionary_tests.proofs.names.iri_mark.Goals as goal

pub returns : goal.returns
returns c =
    let b = c.args.b in
    (c.marked.ensures
    ∙ ap (λ x. cond (eqb b 0x22) 1 x) (c.marked-less_than.ensures
    ∙ ap (λ x. cond (eqb b 0x3C) 1 x) (c.marked-greater_than.ensures
    ∙ ap (λ x. cond (eqb b 0x3E) 1 x) (c.marked-backslash.ensures
    ∙ ap (λ x. cond (eqb b 0x5C) 1 x) (c.marked-caret.ensures
    ∙ ap (λ x. cond (eqb b 0x5E) 1 x) (c.marked-backtick.ensures
    ∙ ap (λ x. cond (eqb b 0x60) 1 x) (c.marked-first_brace.ensures
    ∙ ap (λ x. cond (eqb b 0x7B) 1 x) (c.marked-bar.ensures
    ∙ ap (λ x. cond (eqb b 0x7C) 1 x) (c.marked-brace.ensures
    ∙ ap (λ x. cond (eqb b 0x7D) 1 x) (c.from-low.ensures ∙ low_byte (leb b 0x20)))))))))))
    ∙ mark_says b
