-- `bytes_before` meets its contract. The invariant: the strings stand as their rests do.
use mathlib.Core.Path.{refl, ◌∙◌}
use native.Mathlib.Omega.{arith}
use Rattle.dictionaries.proofs.Searching.{from_less, from_more, from_same, from_longer, from_shorter, from_none}
use Rattle.dictionary_searches.proofs.Told.{told_before}
use Rattle.dictionary_searches.proofs.before.bytes_before.Goals as goal

pub loop-i-init : goal.loop-i-init
loop-i-init c = (omega arith, omega arith, refl)

pub returns-then-ys-i : goal.returns-then-ys-i
returns-then-ys-i c =
    let g = c.args in
    told_before g.xs.now g.ys.now (c.loop-i.invariant.2 ∙ from_longer g.xs.now g.ys.now c.loop-i.i (omega arith) c.if-ys-i.true)

pub returns-then-x-y-2 : goal.returns-then-x-y-2
returns-then-x-y-2 c =
    let g = c.args in
    told_before g.xs.now g.ys.now (c.loop-i.invariant.2 ∙ from_less g.xs.now g.ys.now c.loop-i.i (omega arith) (omega arith) c.if-x-y-2.true)

pub returns-then-x-y : goal.returns-then-x-y
returns-then-x-y c =
    let g = c.args in
    let n = c.if-x-y.true in
    told_before g.xs.now g.ys.now (c.loop-i.invariant.2 ∙ from_more g.xs.now g.ys.now c.loop-i.i (omega arith) (omega arith) (omega arith))

pub loop-i-preserved : goal.loop-i-preserved
loop-i-preserved c =
    let g = c.args in
    (omega arith, omega arith, c.loop-i.invariant.2 ∙ from_same g.xs.now g.ys.now c.loop-i.i (omega arith) (omega arith) c.if-x-y.false)

pub returns-then-i-ys : goal.returns-then-i-ys
returns-then-i-ys c =
    let g = c.args in
    told_before g.xs.now g.ys.now (c.loop-i.invariant.2 ∙ from_shorter g.xs.now g.ys.now c.loop-i.i (omega arith) c.if-i-ys.true)

pub returns-else-i-ys : goal.returns-else-i-ys
returns-else-i-ys c =
    let g = c.args in
    told_before g.xs.now g.ys.now (c.loop-i.invariant.2 ∙ from_none g.xs.now g.ys.now c.loop-i.i (omega arith) c.if-i-ys.false)
