-- `insert_best` meets its contract: the row is left out, or it is put in and the list grows, or the last row falls out.
use mathlib.Core.Path.{refl, sym}
use native.Mathlib.Omega.{arith}
use Rattle.list_best.proofs.InsertingBest.{most_words, searchable, front, at_used, left_out, one_fits, grown_fits, grows, falls}
use Rattle.list_best.proofs.best_of.insert_best.Goals as goal

pub slice_bounds-place_in-end : goal.slice_bounds-place_in-end
slice_bounds-place_in-end c = omega (arith, c.requires.fit)

pub slice_bounds-place_in-end-2 : goal.slice_bounds-place_in-end-2
slice_bounds-place_in-end-2 c = sym (front c.requires)

pub place_in-at-requires : goal.place_in-at-requires
place_in-at-requires c = searchable c.requires

pub overflow_mul-most : goal.overflow_mul-most
overflow_mul-most c = omega (arith, most_words c.requires.parts)

pub returns-then-most-at : goal.returns-then-most-at
returns-then-most-at c =
    left_out c.requires c.place_in-at.ensures refl c.if-most-at.true

pub insert-requires : goal.insert-requires
insert-requires c =
    (at_used c.requires c.place_in-at.ensures refl, grown_fits c.requires c.place_in-at.ensures refl (omega arith) c.if-used-most.true)

pub returns-then-used-most : goal.returns-then-used-most
returns-then-used-most c =
    grows c.requires c.place_in-at.ensures refl (omega arith) c.if-used-most.true c.insert.ensures

pub overflow_sub-used : goal.overflow_sub-used
overflow_sub-used c =
    omega (arith, one_fits c.requires c.place_in-at.ensures refl (omega arith))

pub insert-requires-2 : goal.insert-requires-2
insert-requires-2 c =
    let o = one_fits c.requires c.place_in-at.ensures refl (omega arith) in
    let f = c.requires.fit in
    let w = c.requires.width in
    (omega arith, omega arith)

pub returns : goal.returns
returns c =
    falls c.requires c.place_in-at.ensures refl (omega arith) (omega arith) c.insert-2.ensures
