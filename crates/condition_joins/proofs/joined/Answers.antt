-- `joined` meets its contract: the truths joined by the word, the comparisons of both.
use native.Mathlib.Omega.{arith}
use Rattle.condition_joins.proofs.joined.Goals as goal

pub overflow_add-result : goal.overflow_add-result
overflow_add-result c = omega (arith, c.requires.0, c.requires.1)

pub returns : goal.returns
returns c = rw c.join.ensures
