-- `comes_before` meets its contract: the keys passed do not tell the two rows apart.
use mathlib.Core.Path.{refl, sym, ◌∙◌}
use native.Mathlib.Omega.{arith}
use Rattle.list_row_orders.proofs.Comparing.{column_there, before_less, before_more, before_same, before_end}
use Rattle.list_row_orders.proofs.comes_before.Goals as goal

pub loop-key-init : goal.loop-key-init
loop-key-init c = refl

pub offset_bounds-a-column : goal.offset_bounds-a-column
offset_bounds-a-column c =
    omega (arith, column_there c.args.vars.now c.args.keys.now c.args.a.now c.args.b.now c.loop-key.key-index (omega arith) c.requires.0)

pub bounds-a-column : goal.bounds-a-column
bounds-a-column c =
    omega (arith, column_there c.args.vars.now c.args.keys.now c.args.a.now c.args.b.now c.loop-key.key-index (omega arith) c.requires.0)

pub offset_bounds-b-column : goal.offset_bounds-b-column
offset_bounds-b-column c =
    omega (arith, column_there c.args.vars.now c.args.keys.now c.args.a.now c.args.b.now c.loop-key.key-index (omega arith) c.requires.0)

pub bounds-b-column : goal.bounds-b-column
bounds-b-column c =
    omega (arith, column_there c.args.vars.now c.args.keys.now c.args.a.now c.args.b.now c.loop-key.key-index (omega arith) c.requires.0)

pub returns-then-x-y : goal.returns-then-x-y
returns-then-x-y c =
    let t = column_there c.args.vars.now c.args.keys.now c.args.a.now c.args.b.now c.loop-key.key-index (omega arith) c.requires.0 in
    sym (c.loop-key.invariant ∙ before_less c.args.vars.now c.args.keys.now c.args.a.now c.args.b.now c.loop-key.key-index (omega arith)
    c.column_of-column.result c.rank_by-x.result c.rank_by-y.result
    c.column_of-column.ensures
    (omega arith) (omega arith) c.rank_by-x.ensures c.rank_by-y.ensures c.if-x-y.true)

pub returns-then-y-x : goal.returns-then-y-x
returns-then-y-x c =
    let t = column_there c.args.vars.now c.args.keys.now c.args.a.now c.args.b.now c.loop-key.key-index (omega arith) c.requires.0 in
    sym (c.loop-key.invariant ∙ before_more c.args.vars.now c.args.keys.now c.args.a.now c.args.b.now c.loop-key.key-index (omega arith)
    c.column_of-column.result c.rank_by-x.result c.rank_by-y.result
    c.column_of-column.ensures
    (omega arith) (omega arith) c.rank_by-x.ensures c.rank_by-y.ensures c.if-y-x.true)

pub loop-key-preserved : goal.loop-key-preserved
loop-key-preserved c =
    let t = column_there c.args.vars.now c.args.keys.now c.args.a.now c.args.b.now c.loop-key.key-index (omega arith) c.requires.0 in
    c.loop-key.invariant ∙ before_same c.args.vars.now c.args.keys.now c.args.a.now c.args.b.now c.loop-key.key-index (omega arith)
    c.column_of-column.result c.rank_by-x.result c.rank_by-y.result
    c.column_of-column.ensures
    (omega arith) (omega arith) c.rank_by-x.ensures c.rank_by-y.ensures (omega arith) (omega arith)

pub returns : goal.returns
returns c =
    sym (c.loop-key.invariant ∙ before_end c.args.vars.now c.args.keys.now c.args.a.now c.args.b.now c.loop-key.key-index (omega arith))
