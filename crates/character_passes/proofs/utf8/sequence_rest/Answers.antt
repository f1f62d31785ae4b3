-- `sequence_rest` meets its contract. The invariant: the character is that of the rest, behind the bits that were read.
use Rattle.character_passes.proofs.Continuing.{bits_first, bits_most, sequence_done, sequence_cut, sequence_wrong, sequence_more, room_more}
use borrow.Author.Tests.{not-true, not-false}
use Prim.Native.Nat.{◌+◌, ◌-◌}
use mathlib.Core.Path.{◌≡◌, refl, sym, ◌∙◌}
use native.Mathlib.Omega.{arith}
use Rattle.character_passes.proofs.utf8.sequence_rest.Goals as goal

pub loop-rest-init : goal.loop-rest-init
loop-rest-init c =
    let a = c.args in
    let z : a.from - a.from ≡ 0 = omega arith in
    (omega arith, omega (arith, c.requires.0), omega (arith, c.requires.1, bits_first a.first), rw z refl)

pub returns-then-at-text : goal.returns-then-at-text
returns-then-at-text c =
    let a = c.args in
    sym (c.loop-rest.invariant.3 ∙ sequence_cut a.text.now c.loop-rest.at c.loop-rest.rest c.loop-rest.point (c.loop-rest.at - a.from)
    (sym c.nothing_left.ensures ∙ not-true c.nothing_left.result c.loop-rest-test.true-raw)
    (omega (arith, c.if-at-text.true)))

pub overflow_mul-point : goal.overflow_mul-point
overflow_mul-point c =
    let a = c.args in
    let e = sym c.nothing_left.ensures ∙ not-true c.nothing_left.result c.loop-rest-test.true-raw in
    let w = room_more a.text.now c.loop-rest.at c.loop-rest.rest c.loop-rest.point 0 e (omega arith) c.next.result c.next.ensures c.in-Some.r c.in-Some.is in
    omega (arith, w, bits_most c.in-Some.r)

pub overflow_add-point : goal.overflow_add-point
overflow_add-point c =
    let a = c.args in
    let e = sym c.nothing_left.ensures ∙ not-true c.nothing_left.result c.loop-rest-test.true-raw in
    let w = room_more a.text.now c.loop-rest.at c.loop-rest.rest c.loop-rest.point 0 e (omega arith) c.next.result c.next.ensures c.in-Some.r c.in-Some.is in
    omega (arith, w, bits_most c.in-Some.r)

pub loop-rest-preserved : goal.loop-rest-preserved
loop-rest-preserved c =
    let a = c.args in
    let e = sym c.nothing_left.ensures ∙ not-true c.nothing_left.result c.loop-rest-test.true-raw in
    let w = room_more a.text.now c.loop-rest.at c.loop-rest.rest c.loop-rest.point 0 e (omega arith) c.next.result c.next.ensures c.in-Some.r c.in-Some.is in
    let z : c.loop-rest.at - a.from + 1 ≡ c.loop-rest.at + 1 - a.from = omega arith in (
      omega arith,
      omega arith,
      omega (arith, w),
      c.loop-rest.invariant.3
          ∙ sequence_more a.text.now c.loop-rest.at c.loop-rest.rest c.loop-rest.point (c.loop-rest.at - a.from) e (omega arith) c.next.result
          c.next.ensures c.in-Some.r c.in-Some.is
          ∙ rw (z, c.from.ensures ∙ c.saturating_sub.ensures) refl,
    )

pub returns-in-None : goal.returns-in-None
returns-in-None c =
    let a = c.args in
    let e = sym c.nothing_left.ensures ∙ not-true c.nothing_left.result c.loop-rest-test.true-raw in
    sym (c.loop-rest.invariant.3 ∙ sequence_wrong a.text.now c.loop-rest.at c.loop-rest.rest c.loop-rest.point (c.loop-rest.at - a.from) e (omega arith)
    c.next.result c.next.ensures c.in-None.is)

pub returns : goal.returns
returns c =
    let a = c.args in
    sym (c.loop-rest.invariant.3 ∙ sequence_done a.text.now c.loop-rest.at c.loop-rest.rest c.loop-rest.point (c.loop-rest.at - a.from)
    (sym c.nothing_left.ensures ∙ not-false c.nothing_left.result c.loop-rest-test.false-raw))
