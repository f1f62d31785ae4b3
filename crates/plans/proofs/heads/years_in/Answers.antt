-- `years_in` meets its contract: no words, another word, 0, a year.
use mathlib.Core.Path.{sym, ◌∙◌}
use Rattle.plans.proofs.YearWords.{years_none, years_latest, years_every, years_named}
use Rattle.plans.proofs.heads.years_in.Goals as goal

pub returns-then-plan-eq0 : goal.returns-then-plan-eq0
returns-then-plan-eq0 c =
    sym (years_none c.args.plan.now c.if-plan-eq0.true)

pub returns-then-kind-ne-YEAR : goal.returns-then-kind-ne-YEAR
returns-then-kind-ne-YEAR c =
    sym (years_latest c.args.plan.now (λ e. c.if-kind-ne-YEAR.true (c.kind.ensures ∙ e)))

pub returns-then-number-eq0 : goal.returns-then-number-eq0
returns-then-number-eq0 c =
    sym (years_every c.args.plan.now c.if-plan-eq0.false (sym c.kind.ensures ∙ c.if-kind-ne-YEAR.false) c.low-number.result c.low-number.ensures
    c.if-number-eq0.true)

pub returns : goal.returns
returns c =
    sym (years_named c.args.plan.now c.if-plan-eq0.false (sym c.kind.ensures ∙ c.if-kind-ne-YEAR.false) c.low-number.result c.low-number.ensures
    c.if-number-eq0.false)
