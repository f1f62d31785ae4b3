-- `hex_number` meets its contract. The invariant: the number of all digits is that of the rest behind those that were read.
use Rattle.characters.specs.Escapes.{hex_from}
use Rattle.character_passes.proofs.Digits.{digits_done, digits_end, no_digit, past_last, next_digit}
use Prim.Native.Nat.{◌+◌, ◌-◌, ◌*◌}
use mathlib.Core.Path.{◌≡◌, refl, sym, ap, ◌∙◌}
use mathlib.Core.Logic.{inl, inr}
use native.Mathlib.Omega.{arith}
use lib.ListN.{drop}
use Rattle.character_passes.proofs.escapes.hex_number.Goals as goal

pub loop-i-init : goal.loop-i-init
loop-i-init c =
    let a = c.args in
    let z : a.digits - 0 ≡ a.digits = omega arith in
    let f : a.from + 0 ≡ a.from = omega arith in
    (omega arith, rw (z, f) refl)

pub returns-then-from-i : goal.returns-then-from-i
returns-then-from-i c =
    let a = c.args in
    let i = c.loop-i.i in
    sym (c.loop-i.invariant.1 ∙ digits_end a.text.now (a.from + i) c.loop-i.v (a.digits - i) (omega arith) (omega arith))

pub returns-then-d-ge16 : goal.returns-then-d-ge16
returns-then-d-ge16 c =
    let a = c.args in
    let i = c.loop-i.i in
    let e = c.hex_digit-d.ensures in
    elim c.then-d-ge16.either [
      | inl h ↦ sym (c.loop-i.invariant.1 ∙ no_digit a.text.now (a.from + i) c.loop-i.v (omega arith) (a.digits - i) (omega arith) (omega (arith, e, h)))
      | inr h ↦
          sym (c.loop-i.invariant.1
          ∙ past_last a.text.now (a.from + i) c.loop-i.v (omega arith) (omega (arith, e, h.0)) (a.digits - i) (omega arith) (omega (arith, h.1)))
    ]

pub loop-i-preserved : goal.loop-i-preserved
loop-i-preserved c =
    let a = c.args in
    let i = c.loop-i.i in
    let e = c.hex_digit-d.ensures in
    let z : a.digits - i - 1 ≡ a.digits - (i + 1) = omega arith in
    let f : a.from + i + 1 ≡ a.from + (i + 1) = omega arith in (
      omega arith,
      c.loop-i.invariant.1
          ∙ next_digit a.text.now (a.from + i) c.loop-i.v (omega arith) (omega (arith, e)) (a.digits - i) (omega arith) (omega arith)
          ∙ rw (z, f) (ap (λ d. hex_from (a.digits - (i + 1)) (drop (a.from + (i + 1)) a.text.now) (c.loop-i.v * 16 + d)) (sym e)),
    )

pub returns : goal.returns
returns c =
    let a = c.args in
    let z : a.digits - c.loop-i.i ≡ 0 = omega arith in
    sym (c.loop-i.invariant.1 ∙ rw z (digits_done (drop (a.from + c.loop-i.i) a.text.now) c.loop-i.v))
