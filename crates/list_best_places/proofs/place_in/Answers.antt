-- `place_in` meets its contract: no row, a row that is not before the last, or one whose place is in front of it.
use mathlib.Core.Path.{sym, ◌∙◌}
use native.Mathlib.Omega.{arith}
use Rattle.list_best_places.proofs.BestSearching.{placed_start, placed_back, placed_front, placed_end, row_room, length_back}
use Rattle.list_best_places.proofs.place_in.Goals as goal

pub returns-then-list-eq0 : goal.returns-then-list-eq0
returns-then-list-eq0 c =
    let z = c.if-list-eq0.true in
    sym z ∙ placed_end c.requires (placed_start c.requires) z

pub overflow_sub-last : goal.overflow_sub-last
overflow_sub-last c =
    omega (arith, row_room c.requires (placed_start c.requires) (let n = c.if-list-eq0.false in omega arith))

pub offset_bounds-list-last : goal.offset_bounds-list-last
offset_bounds-list-last c =
    omega (arith, row_room c.requires (placed_start c.requires) (let n = c.if-list-eq0.false in omega arith))

pub slice_bounds-comes_before-count : goal.slice_bounds-comes_before-count
slice_bounds-comes_before-count c =
    omega (arith, row_room c.requires (placed_start c.requires) (let n = c.if-list-eq0.false in omega arith))

pub slice_bounds-comes_before-start : goal.slice_bounds-comes_before-start
slice_bounds-comes_before-start c =
    omega (arith, row_room c.requires (placed_start c.requires) (let n = c.if-list-eq0.false in omega arith))

pub comes_before-requires : goal.comes_before-requires
comes_before-requires c =
    let back = length_back c.requires (placed_start c.requires) (let n = c.if-list-eq0.false in omega arith) in
    (c.requires.among, omega (arith, c.requires.width), omega arith)

pub far_back-requires : goal.far_back-requires
far_back-requires c = record {
  searchable = c.requires;
  placed_up_to =
      placed_back c.requires (placed_start c.requires) (let n = c.if-list-eq0.false in omega arith) c.comes_before.ensures c.if-comes_before.true;
}

pub near_back-requires : goal.near_back-requires
near_back-requires c = record { searchable = c.requires; placed_up_to = c.far_back.ensures }

pub returns-then-comes_before : goal.returns-then-comes_before
returns-then-comes_before c = c.near_back.ensures

pub returns : goal.returns
returns c =
    placed_front c.requires (placed_start c.requires) (let n = c.if-list-eq0.false in omega arith) c.comes_before.ensures c.if-comes_before.false
