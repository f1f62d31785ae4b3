-- `put_best` meets its contract: a row that is ahead of the threshold is put in among the best.
use mathlib.Core.Path.{sym}
use native.Mathlib.Omega.{arith}
use Rattle.list_best.proofs.DeliveringBest.{threshold_width, row_width_lem, insertable, delivered_in_lem, delivered_out}
use Rattle.list_best.proofs.best_of.put_best.Goals as goal

pub row_of-row-requires : goal.row_of-row-requires
row_of-row-requires c = c.requires.parts.narrow

pub slice_bounds-row-end : goal.slice_bounds-row-end
slice_bounds-row-end c = omega (arith, c.requires.parts.narrow)

pub slice_bounds-is_ahead-end : goal.slice_bounds-is_ahead-end
slice_bounds-is_ahead-end c =
    sym (row_width_lem c.requires c.args.bound.now c.row_of-row.ensures)

pub is_ahead-requires : goal.is_ahead-requires
is_ahead-requires c = (
  c.requires.parts.among,
  omega (arith, row_width_lem c.requires c.args.bound.now c.row_of-row.ensures),
  threshold_width c.args.k c.args.vars.now c.args.keys.now c.args.threshold.now c.requires.sent,
)

pub slice_bounds-row-end-then-is_ahead : goal.slice_bounds-row-end-then-is_ahead
slice_bounds-row-end-then-is_ahead c = omega (arith, c.requires.parts.narrow)

pub slice_bounds-insert_best-end : goal.slice_bounds-insert_best-end
slice_bounds-insert_best-end c =
    sym (row_width_lem c.requires c.args.bound.now c.row_of-row.ensures)

pub insert_best-requires : goal.insert_best-requires
insert_best-requires c =
    insertable c.requires c.args.bound.now c.row_of-row.ensures

pub returns-then-is_ahead : goal.returns-then-is_ahead
returns-then-is_ahead c =
    delivered_in_lem c.requires c.args.bound.now c.row_of-row.ensures c.is_ahead.ensures c.if-is_ahead.true c.insert_best.ensures

pub returns : goal.returns
returns c =
    delivered_out c.requires c.args.bound.now c.row_of-row.ensures c.is_ahead.ensures c.if-is_ahead.false
