use Rattle.std.proofs.Common.{◌≡◌, length}
use Rattle.sequences.specs.Sequences.{over}
use Rattle.upload_writes.specs.Writing.{dropped_words}
use Rattle.upload_writes.proofs.reports.write_report.Given as goal

-- the dropped rows before `row` are written
abbrev pub invariant-loop-row : goal.invariant-loop-row
invariant-loop-row l = (l.used ≡ length (dropped_words l.fates l.row)) × (l.report ≡ over (dropped_words l.fates l.row) l.initial.report)
