-- The loop of `list_right` keeps that the list is right if the entries from the place on are.
use Prim.Native.Nat.{◌≤◌}
use mathlib.Core.Path.{◌≡◌}
use lib.ListN.{take, drop}
use Rattle.queues.specs.Lists.{owners_in}
use Rattle.queue_entries.specs.Entries.{standing}
use Rattle.queue_entries.proofs.list_right.Given as goal

abbrev pub invariant-loop-i : goal.invariant-loop-i
invariant-loop-i l =
    (l.i ≤ l.count)
    × (standing l.waiting (take l.count l.list) (owners_in (take l.few l.others))
    ≡ standing l.waiting (drop l.i (take l.count l.list)) (owners_in (take l.few l.others)))
