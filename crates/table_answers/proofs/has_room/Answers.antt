-- `has_room` meets its contract.
use Rattle.std.proofs.Common.{arith}
use Rattle.std.proofs.lemmas.Grind.{common_steps}
use Rattle.table_answers.specs.Counts.{tables_room_for}
use Rattle.table_answers.proofs.has_room.Goals as goal

pub returns-then-count-pos : goal.returns-then-count-pos
unfolding tables_room_for
returns-then-count-pos c = grind (arith, common_steps)

pub returns-else-count-pos : goal.returns-else-count-pos
unfolding tables_room_for
returns-else-count-pos c = grind (arith, common_steps)
