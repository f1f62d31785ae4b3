-- `is_ahead` meets its contract: each row is ahead where no threshold was sent.
use native.Mathlib.Omega.{arith}
use Rattle.lists.specs.Rows.{row_before}
use Rattle.list_best.proofs.DeliveringBest.{none_sent, one_sent}
use Rattle.list_best.proofs.best_of.is_ahead.Goals as goal

pub returns-then-threshold-eq0 : goal.returns-then-threshold-eq0
returns-then-threshold-eq0 c =
    let a = c.args in
    none_sent (row_before a.vars.now a.keys.now) a.threshold.now a.row.now c.if-threshold-eq0.true

pub comes_before-requires : goal.comes_before-requires
comes_before-requires c =
    let width = c.requires.2 (omega (arith, c.if-threshold-eq0.false)) in
    (c.requires.0, omega arith, omega arith)

pub returns : goal.returns
returns c =
    let a = c.args in
    one_sent (row_before a.vars.now a.keys.now) a.threshold.now a.row.now c.if-threshold-eq0.false c.comes_before.ensures
