-- `keys_form` meets its contract: the count of keys, and their kinds.
use mathlib.Core.Path.{sym, ◌∙◌}
use borrow.Author.Tests.{lt-leb}
use Rattle.plans.proofs.EndingForms.{keys_none, keys_are, keys_long}
use Rattle.plan_ending_forms.proofs.endings.keys_form.Goals as goal

pub returns-then-p-eq0 : goal.returns-then-p-eq0
returns-then-p-eq0 c = sym (keys_none c.args.p.now c.if-p-eq0.true)

pub returns-then-p-le-MOST_KEYS : goal.returns-then-p-le-MOST_KEYS
returns-then-p-le-MOST_KEYS c = c.all_keys.ensures ∙ sym (keys_are c.args.p.now c.if-p-eq0.false c.if-p-le-MOST_KEYS.true)

pub returns-else-p-le-MOST_KEYS : goal.returns-else-p-le-MOST_KEYS
returns-else-p-le-MOST_KEYS c = lt-leb _ _ c.if-p-le-MOST_KEYS.false ∙ sym (keys_long c.args.p.now c.if-p-le-MOST_KEYS.false)
