-- `query_number` meets its contract: the tests of tables and plan, then those of the state.
use mathlib.Core.Path.{sym, ◌∙◌, ap}
use Rattle.words.specs.Tests.{number_of}
use Rattle.words.proofs.Numbering.{front_decides, rest_decides}
use Rattle.tables.specs.Tables.{tables_of}
use Rattle.plans.specs.Plans.{plan_of}
use Rattle.state_saving.specs.Loading.{state_tests}
use Rattle.turn_tests.proofs.Numbering.{early_tests, early_pass, early_right, early_planned}
use Rattle.queue_tests.proofs.joining.query_number.Goals as goal

pub returns-then-number-ne0 : goal.returns-then-number-ne0
returns-then-number-ne0 c =
    let s = c.args in
    let t = tables_of s.rows.now s.pos.now s.osp.now in
    front_decides (early_tests t s.plan.now) (state_tests t s.survey (plan_of s.plan.now) s.state.now)
    c.check-number.result c.check-number.ensures c.if-number-ne0.true

pub load-requires : goal.load-requires
load-requires c = let s = c.args in
    let t = tables_of s.rows.now s.pos.now s.osp.now in
    let e = sym c.check-number.ensures ∙ c.if-number-ne0.false in record { right = early_right t s.plan.now e; plan_value = early_planned t s.plan.now e }

pub returns : goal.returns
returns c =
    let s = c.args in
    let t = tables_of s.rows.now s.pos.now s.osp.now in
    let e = sym c.check-number.ensures ∙ c.if-number-ne0.false in
    c.load.ensures.refused_value
    ∙ sym (ap number_of (rest_decides (early_tests t s.plan.now) (state_tests t s.survey (plan_of s.plan.now) s.state.now)
    (early_pass t s.plan.now e)))
