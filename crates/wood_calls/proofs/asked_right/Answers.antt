-- `asked_right` meets its contract.
use Rattle.std.proofs.Common.{arith}
use Rattle.std.proofs.lemmas.Grind.{common_steps}
use Rattle.woods.specs.Growing.{asked_right}
use Rattle.wood_calls.proofs.asked_right.Goals as goal

pub returns-then-stems-le-MOST_STEMS : goal.returns-then-stems-le-MOST_STEMS
unfolding asked_right
returns-then-stems-le-MOST_STEMS c = grind (arith, common_steps)

pub returns-else-stems-le-MOST_STEMS : goal.returns-else-stems-le-MOST_STEMS
unfolding asked_right
returns-else-stems-le-MOST_STEMS c = grind (arith, common_steps)
