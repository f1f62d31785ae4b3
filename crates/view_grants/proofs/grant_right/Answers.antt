-- `grant_right` meets its contract: their order first, then names.
use mathlib.Core.Path.{sym, ◌∙◌}
use Rattle.view_grants.proofs.Grants.{by_order, by_names}
use Rattle.view_grants.proofs.grant_right.Goals as goal

pub returns-then-ascends : goal.returns-then-ascends
returns-then-ascends c = c.last_named.ensures ∙ sym (by_names c.args.grant.now (sym c.ascends.ensures ∙ c.if-ascends.true))

pub returns-else-ascends : goal.returns-else-ascends
returns-else-ascends c = c.if-ascends.false ∙ sym (by_order c.args.grant.now (sym c.ascends.ensures ∙ c.if-ascends.false))
