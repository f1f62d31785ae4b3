-- `table_tests::lengths_right` meets its contract.
use Rattle.std.proofs.Common.{arith}
use Rattle.std.proofs.lemmas.Grind.{common_steps}
use Rattle.tables.specs.Tables.{lengths_right}
use Rattle.table_tests.proofs.lengths_right.Goals as goal

pub returns-then-osp-count : goal.returns-then-osp-count
unfolding lengths_right
returns-then-osp-count c = grind (arith, common_steps)

pub returns-else-osp-count : goal.returns-else-osp-count
unfolding lengths_right
returns-else-osp-count c = grind (arith, common_steps)
