-- `negated` meets its contract: the comparisons stay.
use Rattle.condition_joins.proofs.negated.Goals as goal

pub returns : goal.returns
returns c = rw c.negation.ensures
