-- `is_ascii` meets its contract. The invariant: all bytes are ASCII exactly where the greatest so far is and the others are.
use Prim.Native.Nat.{◌+◌}
use native.Mathlib.Omega.{arith}
use mathlib.Core.Path.{refl, sym, ap, ◌∙◌}
use mathlib.Core.Bool.{◌&&◌}
use lib.Dec.{leb}
use lib.ListN.{drop}
use Rattle.sequences.specs.Sequences.{all}
use Rattle.dictionary_checks.proofs.Ascii.{ascii_byte, ascii_step, ascii_end}
use Rattle.dictionary_checks.proofs.is_ascii.Goals as goal

pub loop-b-init : goal.loop-b-init
loop-b-init c = refl

pub loop-b-preserved : goal.loop-b-preserved
loop-b-preserved c =
    let i = c.loop-b.b-index in
    c.loop-b.invariant
    ∙ (ascii_step c.args.bytes.now i c.loop-b.greatest (omega arith)
    ∙ ap (λ g. leb g 0x7F && all ascii_byte (drop (i + 1) c.args.bytes.now)) (sym c.max-greatest.ensures))

pub returns : goal.returns
returns c =
    sym (c.loop-b.invariant ∙ ascii_end c.args.bytes.now c.loop-b.b-index c.loop-b.greatest c.loop-b-test.false)
