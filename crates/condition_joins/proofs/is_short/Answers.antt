-- `is_short` meets its contract: the other word is looked at where the first is "and".
use borrow.Author.Tests.{eq-eqb, ne_eqb}
use Rattle.condition_joins.proofs.is_short.Goals as goal

pub returns-then-kind-eq-AND : goal.returns-then-kind-eq-AND
returns-then-kind-eq-AND c = rw (← c.kind.ensures, eq-eqb _ _ c.if-kind-eq-AND.true, ← c.kind-then-kind-eq-AND.ensures)

pub returns-else-kind-eq-AND : goal.returns-else-kind-eq-AND
returns-else-kind-eq-AND c = rw (← c.kind.ensures, ne_eqb _ _ c.if-kind-eq-AND.false)
