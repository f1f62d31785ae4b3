-- `is_best` meets its contract: the parts of test 12, the quickest first.
use native.Mathlib.Omega.{arith}
use Rattle.list_best.proofs.RightLists.{part_row, too_many_lem, no_value, by_order}
use Rattle.list_best_tests.proofs.is_best.Goals as goal

pub nonzero_rem-list : goal.nonzero_rem-list
nonzero_rem-list c = omega (arith, c.requires.some)

pub returns-then-list-w-ne0 : goal.returns-then-list-w-ne0
returns-then-list-w-ne0 c =
    part_row c.args.k c.args.vars.now c.args.keys.now c.args.list.now c.if-list-w-ne0.true

pub nonzero_div-list : goal.nonzero_div-list
nonzero_div-list c = omega (arith, c.requires.some)

pub returns-then-list-w : goal.returns-then-list-w
returns-then-list-w c =
    too_many_lem c.args.k c.args.vars.now c.args.keys.now c.args.list.now c.if-list-w.true

pub rises-requires : goal.rises-requires
rises-requires c =
    (c.requires.some, c.requires.among, c.requires.narrow, c.if-list-w-ne0.false)

pub returns-then-is_values : goal.returns-then-is_values
returns-then-is_values c =
    by_order c.args.k c.args.vars.now c.args.keys.now c.args.list.now c.if-list-w-ne0.false
    c.if-list-w.false c.is_values.ensures c.if-is_values.true c.rises.ensures

pub returns : goal.returns
returns c =
    no_value c.args.k c.args.vars.now c.args.keys.now c.args.list.now c.is_values.ensures c.if-is_values.false
