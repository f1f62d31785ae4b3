-- `text_from` meets its contract. The invariant: the whole text is the text from a place on.
use Rattle.tokens.specs.Texts.{text_from}
use Rattle.token_texts.proofs.TextsRead.{text_over, text_ends_lem, text_going, text_goes}
use Prim.Native.Nat.{◌+◌, ◌-◌}
use mathlib.Core.Path.{◌≡◌, sym, ap, ◌∙◌}
use native.Mathlib.Omega.{arith}
use lib.ListN.{drop}
use Rattle.token_texts.proofs.text_from.Goals as goal

pub overflow_add-at : goal.overflow_add-at
overflow_add-at c =
    let a = c.args in
    omega (arith, text_going a.points.now a.long a.q c.loop-at.at (omega arith) c.text_step.result c.text_step.ensures c.in-Ok.n c.in-Ok.is)

pub loop-at-smaller : goal.loop-at-smaller
loop-at-smaller c =
    let a = c.args in
    let i = text_going a.points.now a.long a.q c.loop-at.at (omega arith) c.text_step.result c.text_step.ensures c.in-Ok.n c.in-Ok.is in
    omega (arith, i.0, i.1)

pub loop-at-preserved : goal.loop-at-preserved
loop-at-preserved c =
    let a = c.args in
    let at = c.loop-at.at in
    let k = c.in-Ok.n in
    let i = text_going a.points.now a.long a.q at (omega arith) c.text_step.result c.text_step.ensures k c.in-Ok.is in
    let e = text_goes a.points.now a.long a.q at (omega arith) c.text_step.result c.text_step.ensures k c.in-Ok.is (at - a.first) in
    let z : at - a.first + k ≡ at + k - a.first = omega (arith, c.requires.0) in
    (omega arith, omega (arith, i.1), c.loop-at.invariant.2 ∙ e ∙ ap (text_from a.long a.q 0 (drop (at + k) a.points.now)) z)

pub returns-in-Err : goal.returns-in-Err
returns-in-Err c =
    let a = c.args in
    let at = c.loop-at.at in
    let e = text_ends_lem a.points.now a.long a.q at (omega arith) c.text_step.result c.text_step.ensures c.in-Err.ending c.in-Err.is (at - a.first) in
    c.text_end.ensures ∙ sym (c.loop-at.invariant.2 ∙ e)

pub returns : goal.returns
returns c =
    let a = c.args in
    let at = c.loop-at.at in
    c.text_end-2.ensures ∙ sym (c.loop-at.invariant.2 ∙ text_over a.points.now a.long a.q at (at - a.first) (omega (arith, c.loop-at-test.false)))
