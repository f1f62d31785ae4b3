-- `near_back` meets its contract: the row comes before each row that was passed.
use native.Mathlib.Omega.{arith}
use Rattle.list_best_places.proofs.BestSearching.{placed_back, placed_front, placed_end, row_room, length_back}
use Rattle.list_best_places.proofs.near_back.Goals as goal

pub loop-at-init : goal.loop-at-init
loop-at-init c =
    c.requires.placed_up_to

pub overflow_sub-from : goal.overflow_sub-from
overflow_sub-from c =
    omega (arith, row_room c.requires.searchable c.loop-at.invariant (omega arith))

pub offset_bounds-list-from : goal.offset_bounds-list-from
offset_bounds-list-from c =
    omega (arith, row_room c.requires.searchable c.loop-at.invariant (omega arith))

pub slice_bounds-comes_before-count : goal.slice_bounds-comes_before-count
slice_bounds-comes_before-count c =
    omega (arith, row_room c.requires.searchable c.loop-at.invariant (omega arith))

pub slice_bounds-comes_before-start : goal.slice_bounds-comes_before-start
slice_bounds-comes_before-start c =
    omega (arith, row_room c.requires.searchable c.loop-at.invariant (omega arith))

pub comes_before-requires : goal.comes_before-requires
comes_before-requires c =
    let back = length_back c.requires.searchable c.loop-at.invariant (omega arith) in
    (c.requires.searchable.among, omega arith, omega arith)

pub loop-at-smaller : goal.loop-at-smaller
loop-at-smaller c =
    omega (arith, c.requires.searchable.some, row_room c.requires.searchable c.loop-at.invariant (omega arith))

pub loop-at-preserved : goal.loop-at-preserved
loop-at-preserved c =
    placed_back c.requires.searchable c.loop-at.invariant (omega arith) c.comes_before.ensures c.if-comes_before.true

pub returns-else-comes_before : goal.returns-else-comes_before
returns-else-comes_before c =
    placed_front c.requires.searchable c.loop-at.invariant (omega arith) c.comes_before.ensures c.if-comes_before.false

pub returns : goal.returns
returns c =
    placed_end c.requires.searchable c.loop-at.invariant (omega arith)
