-- `dotted_end` meets its contract. The invariant: where the last item of all ends is where the last one from a place on does.
use borrow.Author.Tests.{eq-eqb, ne_eqb}
use Rattle.token_names.specs.Items.{item_of}
use Rattle.token_names.proofs.Dotting.{dotted_over, dotted_dot, dotted_stop, dotted_item, item_within, counted_some, counted_none}
use Prim.Native.Nat.{◌+◌}
use mathlib.Core.Path.{refl, sym, ◌∙◌}
use native.Mathlib.Omega.{arith}
use lib.ListN.{get_or, drop}
use Rattle.token_names.proofs.dotted_end.Goals as goal

pub loop-at-preserved-then-points-at-eq46 : goal.loop-at-preserved-then-points-at-eq46
loop-at-preserved-then-points-at-eq46 c =
    let a = c.args in
    let at = c.loop-at.at in
    let t = eq-eqb (get_or a.points.now at 0) 0x2E c.if-points-at-eq46.true in
    let e = dotted_dot (item_of a.local) a.points.now at at c.loop-at.end (omega arith) t in
    (omega arith, omega arith, omega arith, c.loop-at.invariant.3 ∙ e)

pub overflow_add-at-in-Some : goal.overflow_add-at-in-Some
overflow_add-at-in-Some c =
    let a = c.args in
    let at = c.loop-at.at in
    let s = c.in-Some.size in
    let n = item_of a.local (get_or a.points.now at 0) (drop (at + 1) a.points.now) in
    let u = counted_some s n (sym c.in-Some.is ∙ c.item.ensures) in
    omega (arith, item_within a.local a.points.now at s (omega arith) u.0)

pub loop-at-preserved : goal.loop-at-preserved
loop-at-preserved c =
    let a = c.args in
    let at = c.loop-at.at in
    let s = c.in-Some.size in
    let t = ne_eqb (get_or a.points.now at 0) 0x2E c.if-points-at-eq46.false in
    let n = item_of a.local (get_or a.points.now at 0) (drop (at + 1) a.points.now) in
    let u = counted_some s n (sym c.in-Some.is ∙ c.item.ensures) in
    let m = item_within a.local a.points.now at s (omega arith) u.0 in
    let e = dotted_item (item_of a.local) a.points.now at at c.loop-at.end (omega arith) t s u.0 u.2 u.1 in
    (omega arith, omega arith, omega (arith, m), c.loop-at.invariant.3 ∙ e)

pub returns-in-None : goal.returns-in-None
returns-in-None c =
    let a = c.args in
    let at = c.loop-at.at in
    let t = ne_eqb (get_or a.points.now at 0) 0x2E c.if-points-at-eq46.false in
    let n = item_of a.local (get_or a.points.now at 0) (drop (at + 1) a.points.now) in
    let u = counted_none n (sym c.in-None.is ∙ c.item.ensures) in
    let e = dotted_stop (item_of a.local) a.points.now at at c.loop-at.end (omega arith) t n refl u in
    (sym (c.loop-at.invariant.3 ∙ e), omega arith, omega arith)

pub returns : goal.returns
returns c =
    let a = c.args in
    let at = c.loop-at.at in
    let e = dotted_over (item_of a.local) a.points.now at at c.loop-at.end (omega (arith, c.loop-at-test.false)) in
    (sym (c.loop-at.invariant.3 ∙ e), omega arith, omega arith)
