use Prim.Native.Nat.{◌+◌, ◌/◌}
use mathlib.Core.List.{◌++◌}
use lib.ListN.{length, drop}
use Rattle.list_group_merges.specs.MergingBackwards.{merged_records}
use Rattle.list_group_merges.proofs.HalfMerges.{HalfMerged}
use Rattle.list_group_merges.proofs.merge_backwards.merge_backwards.Given as goal

abbrev pub invariant-loop-y : goal.invariant-loop-y
invariant-loop-y l =
    HalfMerged l.g l.initial.kept l.list
    (merged_records l.g l.initial.kept l.list (l.used / (l.g + 8)) (length l.list / (l.g + 8)) ++ drop l.words l.initial.kept) l.kept l.x l.y l.to

abbrev pub decreases-loop-y : goal.decreases-loop-y
decreases-loop-y l = l.x + l.y
