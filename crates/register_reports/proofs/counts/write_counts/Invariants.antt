use Rattle.std.proofs.Common.{◌≡◌, length}
use Rattle.sequences.specs.Sequences.{over}
use Rattle.register_reports.proofs.Reported.{reported}
use Rattle.register_reports.proofs.counts.write_counts.Given as goal

abbrev pub invariant-loop-value : goal.invariant-loop-value
invariant-loop-value l = (length l.report ≡ length l.initial.report) × (l.report ≡ over (reported l.list l.value) l.initial.report)
