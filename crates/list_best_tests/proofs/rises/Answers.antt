-- `rises` meets its contract: no row passed comes before the one in front of it.
use native.Mathlib.Omega.{arith}
use Rattle.list_best.proofs.BestTests.{rising_start, rising_end, second, widths, rising_more, rising_stops}
use Rattle.list_best_tests.proofs.rises.Goals as goal

pub loop-at-init : goal.loop-at-init
loop-at-init c =
    rising_start c.args.vars.now c.args.keys.now c.args.list.now c.requires.3

pub overflow_add-at : goal.overflow_add-at
overflow_add-at c = omega (arith, c.loop-at.invariant.up_to, c.requires.2)

pub overflow_add-end : goal.overflow_add-end
overflow_add-end c =
    omega (arith, second c.requires.0 c.loop-at.invariant (omega arith))

pub offset_bounds-list-next : goal.offset_bounds-list-next
offset_bounds-list-next c =
    omega (arith, second c.requires.0 c.loop-at.invariant (omega arith))

pub slice_bounds-comes_before-count : goal.slice_bounds-comes_before-count
slice_bounds-comes_before-count c =
    omega (arith, second c.requires.0 c.loop-at.invariant (omega arith))

pub slice_bounds-comes_before-start : goal.slice_bounds-comes_before-start
slice_bounds-comes_before-start c =
    omega (arith, second c.requires.0 c.loop-at.invariant (omega arith))

pub slice_bounds-comes_before-end : goal.slice_bounds-comes_before-end
slice_bounds-comes_before-end c =
    omega (arith, second c.requires.0 c.loop-at.invariant (omega arith))

pub offset_bounds-list-at : goal.offset_bounds-list-at
offset_bounds-list-at c =
    omega (arith, second c.requires.0 c.loop-at.invariant (omega arith))

pub slice_bounds-comes_before-count-in-loop-at : goal.slice_bounds-comes_before-count-in-loop-at
slice_bounds-comes_before-count-in-loop-at c =
    omega (arith, second c.requires.0 c.loop-at.invariant (omega arith))

pub comes_before-requires : goal.comes_before-requires
comes_before-requires c =
    let w = widths c.requires.0 c.loop-at.invariant (omega arith) in
    (c.requires.1, omega (arith, w.1), omega (arith, w.0))

pub returns-then-comes_before : goal.returns-then-comes_before
returns-then-comes_before c =
    rising_stops c.requires.0 c.loop-at.invariant (omega arith) c.comes_before.ensures c.if-comes_before.true

pub loop-at-smaller : goal.loop-at-smaller
loop-at-smaller c =
    omega (arith, c.requires.0)

pub loop-at-preserved : goal.loop-at-preserved
loop-at-preserved c =
    rising_more c.requires.0 c.loop-at.invariant (omega arith) c.comes_before.ensures c.if-comes_before.false

pub returns : goal.returns
returns c =
    rising_end c.requires.0 c.loop-at.invariant (omega arith)
