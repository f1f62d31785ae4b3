use Rattle.std.proofs.Common.{◌≡◌}
use Rattle.table_tests.proofs.RowKinds.{kinds_upto, years_upto}
use Rattle.table_tests.proofs.rows_refusal.Given as goal

abbrev pub invariant-loop-row : goal.invariant-loop-row
invariant-loop-row l = (l.kinds ≡ kinds_upto l.rows l.row) × (l.years ≡ years_upto l.rows l.row)
