-- `check` meets its contract: the tables decide where one of their tests fails, else the plan does.
use mathlib.Core.Path.{sym, ◌∙◌}
use Rattle.tables.specs.Tables.{tables_of}
use Rattle.turn_tests.proofs.Numbering.{tables_fail, plan_decides}
use Rattle.turn_tests.proofs.testing.check.Goals as goal

pub returns-then-number-ne0 : goal.returns-then-number-ne0
returns-then-number-ne0 c =
    tables_fail (tables_of c.args.rows.now c.args.pos.now c.args.osp.now) c.args.plan.now
    c.check-number.result c.check-number.ensures c.if-number-ne0.true

pub returns : goal.returns
returns c =
    plan_decides (tables_of c.args.rows.now c.args.pos.now c.args.osp.now) c.args.plan.now
    c.check.result (sym c.check-number.ensures ∙ c.if-number-ne0.false) c.check.ensures
