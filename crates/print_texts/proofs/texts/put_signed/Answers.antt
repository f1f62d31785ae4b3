-- `put_signed` meets its contract: the bits themselves, or a dash and what they lack.
use native.Mathlib.Omega.{arith}
use Prim.Native.Nat.{◌-◌}
use mathlib.Core.Path.{refl, ap}
use mathlib.Core.List.{[], ◌∷◌}
use lib.ListN.{length}
use Rattle.print_texts.specs.Texts.{dash, decimal}
use Rattle.print_texts.proofs.Placements.{placed_then}
use Rattle.print_texts.proofs.Terms.{low_text, high_text}
use Rattle.print_texts.proofs.texts.put_signed.Goals as goal

pub put_decimal-requires : goal.put_decimal-requires
put_decimal-requires c =
    let a = c.args in
    let e = ap length (low_text a.half a.bits (omega arith)) in
    omega arith

pub returns-then-bits-half : goal.returns-then-bits-half
returns-then-bits-half c =
    let a = c.args in
    rw (low_text a.half a.bits (omega arith)) c.put_decimal.ensures

pub put_byte-next-requires : goal.put_byte-next-requires
put_byte-next-requires c =
    let a = c.args in
    let e = ap length (high_text a.half a.bits (a.half - (a.bits - a.half)) (omega arith) (omega arith) refl) in
    omega arith

pub put_decimal-requires-2 : goal.put_decimal-requires-2
put_decimal-requires-2 c =
    let a = c.args in
    let e = ap length (high_text a.half a.bits (a.half - (a.bits - a.half)) (omega arith) (omega arith) refl) in
    omega arith

pub returns : goal.returns
returns c =
    let a = c.args in
    let m = a.half - (a.bits - a.half) in
    let t = high_text a.half a.bits m (omega arith) (omega arith) refl in
    let e = ap length t in
    rw t
    (placed_then (dash ∷ []) (decimal m) a.at c.put_byte-next.result c.put_decimal-2.result a.line.now c.put_byte-next.new.line
    c.put_decimal-2.new.line (omega arith)
    c.put_byte-next.ensures c.put_decimal-2.ensures)
