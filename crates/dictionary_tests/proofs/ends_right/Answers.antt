-- `ends_right` meets its contract. The invariant: all ends are right exactly where the rest is, from the last end on.
use Prim.Native.Nat.{◌+◌}
use native.Mathlib.Omega.{arith}
use mathlib.Core.Path.{refl, sym, ap, ◌∙◌}
use lib.ListN.{drop}
use Rattle.dictionaries.specs.Dictionaries.{ends_right}
use Rattle.dictionary_tests.proofs.Walking.{ends_step, ends_stop, ends_end}
use Rattle.dictionary_tests.proofs.ends_right.Goals as goal

pub loop-end-init : goal.loop-end-init
loop-end-init c = refl

pub returns-then-end-last : goal.returns-then-end-last
returns-then-end-last c =
    let a = c.args in
    let w = c.wide-end.ensures in
    sym (c.loop-end.invariant ∙ ends_stop a.count c.loop-end.last a.ends.now c.loop-end.end-index (omega arith) (omega arith))

pub loop-end-preserved : goal.loop-end-preserved
loop-end-preserved c =
    let a = c.args in
    let i = c.loop-end.end-index in
    let w = c.wide-end.ensures in
    c.loop-end.invariant
    ∙ (ends_step a.count c.loop-end.last a.ends.now i (omega arith) (omega arith) ∙ ap (λ e. ends_right a.count e (drop (i + 1) a.ends.now)) (sym w))

pub returns : goal.returns
returns c =
    let a = c.args in
    sym (c.loop-end.invariant ∙ ends_end a.count c.loop-end.last a.ends.now c.loop-end.end-index (omega arith))
