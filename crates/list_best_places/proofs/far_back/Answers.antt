-- `far_back` meets its contract: where the row comes before one far back, its place is not behind that one.
use Prim.Native.Nat.{◌-◌, ◌*◌}
use native.Mathlib.Omega.{arith}
use lib.ListN.{length}
use Rattle.list_best_places.proofs.RowWords.{row_length, far_whole}
use Rattle.list_best_places.proofs.BestSearching.{placed_at}
use Rattle.list_best_places.proofs.far_back.Goals as goal

pub loop-at-init : goal.loop-at-init
loop-at-init c = c.requires.placed_up_to

pub offset_bounds-list-first : goal.offset_bounds-list-first
offset_bounds-list-first c = omega (arith, c.loop-at.invariant.up_to)

pub slice_bounds-comes_before-end : goal.slice_bounds-comes_before-end
slice_bounds-comes_before-end c = omega (arith, c.loop-at.invariant.up_to)

pub comes_before-requires : goal.comes_before-requires
comes_before-requires c =
    let w = length c.args.vars.now in
    let n = row_length w c.args.list.now (c.loop-at.at - 8 * w) (omega (arith, c.loop-at.invariant.up_to)) in
    (c.requires.searchable.among, omega (arith, c.requires.searchable.width), omega arith)

pub loop-at-smaller : goal.loop-at-smaller
loop-at-smaller c =
    omega (arith, c.requires.searchable.some)

pub loop-at-preserved : goal.loop-at-preserved
loop-at-preserved c =
    let w = length c.args.vars.now in
    placed_at c.requires.searchable (omega (arith, c.loop-at.invariant.up_to)) (far_whole w 8 c.loop-at.at c.loop-at.invariant.whole) c.comes_before.ensures
    c.if-comes_before.true

pub returns-else-comes_before : goal.returns-else-comes_before
returns-else-comes_before c = c.loop-at.invariant

pub returns : goal.returns
returns c = c.loop-at.invariant
