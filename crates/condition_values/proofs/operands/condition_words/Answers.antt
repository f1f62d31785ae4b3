-- `condition_words` meets its contract.
use mathlib.Core.Path.{sym, ◌∙◌}
use Rattle.plans.specs.Conditions.{read_condition, most_depth}
use Rattle.plans.proofs.Trees.{unread_words, tree_words_read}
use Rattle.condition_values.proofs.operands.condition_words.Goals as goal

pub returns-in-None : goal.returns-in-None
returns-in-None c =
    sym (unread_words _ (read_condition most_depth c.args.p.now) (sym c.condition.ensures ∙ c.in-None.is))

pub returns-in-Some : goal.returns-in-Some
returns-in-Some c =
    sym (tree_words_read _ (read_condition most_depth c.args.p.now) _ (sym c.condition.ensures ∙ c.in-Some.is))
