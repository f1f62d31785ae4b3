-- `keeps` meets its contract: the condition that keeps every row, or one that is evaluated and true.
use mathlib.Core.Path.{sym, ◌∙◌}
use Rattle.conditions.specs.Values.{condition_in}
use Rattle.conditions.proofs.Evaluating.{keeps_true, always_kept}
use Rattle.condition_values.proofs.keeps.Goals as goal

pub returns-then-always : goal.returns-then-always
returns-then-always c =
    c.if-always.true ∙ sym (always_kept c.args.bound.now (condition_in c.args.p.now) (c.always.ensures c.if-always.true))

pub returns-else-always : goal.returns-else-always
returns-else-always c =
    c.is_true.ensures ∙ keeps_true c.args.bound.now (condition_in c.args.p.now) c.evaluate.ensures
