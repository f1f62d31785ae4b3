use Prim.Native.Nat.{◌+◌, ◌/◌}
use lib.ListN.{length}
use Rattle.list_group_merges.specs.MergingBackwards.{union_of}
use Rattle.list_group_merges.proofs.Unions.{UnionCounted}
use Rattle.list_group_merges.proofs.merge_backwards.union_of.Given as goal

abbrev pub invariant-loop-y : goal.invariant-loop-y
invariant-loop-y l =
    UnionCounted l.g l.kept l.list (union_of l.g l.kept l.list (l.used / (l.g + 8)) (length l.list / (l.g + 8))) (l.used + length l.list) l.x l.y l.n

abbrev pub decreases-loop-y : goal.decreases-loop-y
decreases-loop-y l = l.x + l.y
