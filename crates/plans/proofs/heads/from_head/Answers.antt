-- `from_head` meets its contract: a year's word is passed over.
use mathlib.Core.Path.{sym, ◌∙◌}
use Rattle.sequences.proofs.Walking.{rest_of}
use Rattle.plans.proofs.YearWords.{head_none, head_first, head_second}
use Rattle.plans.proofs.heads.from_head.Goals as goal

pub returns-then-plan-eq0 : goal.returns-then-plan-eq0
returns-then-plan-eq0 c =
    sym (head_none c.args.plan.now c.if-plan-eq0.true)

pub returns-then-kind-ne-YEAR : goal.returns-then-kind-ne-YEAR
returns-then-kind-ne-YEAR c =
    sym (head_first c.args.plan.now (λ e. c.if-kind-ne-YEAR.true (c.kind.ensures ∙ e)))

pub returns : goal.returns
returns c =
    rest_of c.args.plan.now 1 ∙ sym (head_second c.args.plan.now c.if-plan-eq0.false (sym c.kind.ensures ∙ c.if-kind-ne-YEAR.false))
