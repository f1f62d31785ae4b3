-- `best_threshold` meets its contract: empty, or one row of values.
use Rattle.list_best.proofs.RightLists.{threshold_empty, threshold_row, threshold_wrong}
use Rattle.list_best_tests.proofs.best_threshold.Goals as goal

pub returns-then-threshold-eq0 : goal.returns-then-threshold-eq0
returns-then-threshold-eq0 c =
    let a = c.args in
    λ k keys. threshold_empty k a.vars.now keys a.threshold.now c.if-threshold-eq0.true

pub returns-then-threshold-vars : goal.returns-then-threshold-vars
returns-then-threshold-vars c =
    let a = c.args in
    λ k keys. threshold_row k a.vars.now keys a.threshold.now c.if-threshold-eq0.false c.if-threshold-vars.true c.is_values.ensures

pub returns : goal.returns
returns c =
    let a = c.args in
    λ k keys. threshold_wrong k a.vars.now keys a.threshold.now c.if-threshold-eq0.false c.if-threshold-vars.false
