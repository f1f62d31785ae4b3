use Prim.Native.Nat.{◌-◌}
use lib.ListN.{length}
use Rattle.list_group_merges.proofs.GroupTesting.{TestedGroups}
use Rattle.list_group_merges.proofs.validity.is_groups.Given as goal

abbrev pub invariant-loop-at : goal.invariant-loop-at
invariant-loop-at l = TestedGroups l.g l.list l.at

abbrev pub decreases-loop-at : goal.decreases-loop-at
decreases-loop-at l = length l.list - l.at
