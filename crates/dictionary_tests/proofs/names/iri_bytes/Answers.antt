-- `iri_bytes` meets its contract. The invariant: all bytes may stand in an IRI exactly where no mark was set so far and the others may.
use Prim.Native.Nat.{◌+◌, max}
use mathlib.Core.Path.{refl, sym, ap, ◌∙◌}
use mathlib.Core.Bool.{◌&&◌}
use lib.Dec.{eqb}
use lib.ListN.{drop}
use Rattle.sequences.specs.Sequences.{all}
use Rattle.dictionaries.specs.Checking.{iri_character}
use Rattle.dictionary_tests.proofs.Marks.{marks_step, marks_end}
use Rattle.dictionary_tests.proofs.names.iri_bytes.Goals as goal

pub loop-b-init : goal.loop-b-init
loop-b-init c = refl

pub loop-b-preserved : goal.loop-b-preserved
loop-b-preserved c =
    let bytes = c.args.bytes.now in
    let i = c.loop-b.b-index in
    let g = c.loop-b.greatest in
    let rest = all iri_character (drop (i + 1) bytes) in
    c.loop-b.invariant
    ∙ (marks_step bytes i g c.loop-b-test.true
    ∙ (ap (λ m. eqb (max g m) 0 && rest) (sym c.iri_mark.ensures) ∙ ap (λ x. eqb x 0 && rest) (sym c.max-greatest.ensures)))

pub returns : goal.returns
returns c = sym (c.loop-b.invariant ∙ marks_end c.args.bytes.now c.loop-b.b-index c.loop-b.greatest c.loop-b-test.false)
