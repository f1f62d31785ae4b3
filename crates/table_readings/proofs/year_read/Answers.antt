-- `table_readings::year_read` meets its contract.
use Rattle.table_readings.proofs.year_read.Goals as goal

pub returns-then-alike : goal.returns-then-alike
returns-then-alike c = rw c.if-alike.true

pub returns-else-alike : goal.returns-else-alike
returns-else-alike c = rw c.if-alike.false c.field.ensures
