use Rattle.std.proofs.Common.{◌≡◌, length}
use Rattle.sequences.specs.Sequences.{over}
use Rattle.list_registers.proofs.Merged.{merged_to}
use Rattle.list_registers.proofs.merging.merge_each.Given as goal

abbrev pub invariant-loop-i : goal.invariant-loop-i
invariant-loop-i l = (length l.kept ≡ length l.initial.kept) × (l.kept ≡ over (merged_to l.initial.kept l.list l.i) l.initial.kept)
