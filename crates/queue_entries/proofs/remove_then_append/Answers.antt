-- `remove_then_append` meets its contract: the entries move up by one copy.
use Prim.Native.Nat.{◌-◌}
use native.Mathlib.Omega.{arith}
use mathlib.Core.Path.{◌≡◌, ◌∙◌, ap}
use lib.ListN.{set}
use Rattle.queue_entries.specs.Entries.{moved_up}
use Rattle.queue_entries.proofs.Placing.{moved_up_paste}
use Rattle.queue_entries.proofs.remove_then_append.Goals as goal
use Rattle.queue_entries.proofs.remove_then_append.Goals.{Joined-gap-last, then-gap-last, else-gap-last}

-- the entries have moved up, whether or not there were any
moved : (l : Joined-gap-last) → l.if-gap-last.list ≡ moved_up l.args.list.now l.args.gap (l.args.last - l.args.gap)
moved c =
    elim c.if-gap-last.branch [
      | then-gap-last w ↦ w.list-is ∙ w.copy_within.ensures.after ∙ moved_up_paste c.args.list.now c.args.gap c.args.last (omega arith) (omega arith)
      | else-gap-last w ↦ let k : 0 ≡ c.args.last - c.args.gap = omega arith in w.list-is ∙ ap (moved_up c.args.list.now c.args.gap) k
    ]

pub returns-then-adds : goal.returns-then-adds
returns-then-adds c = rw c.if-adds.true (ap (λ ys. set ys c.args.last c.args.e) (moved (goal.at.returns-then-adds c).Joined-gap-last))

pub returns-else-adds : goal.returns-else-adds
returns-else-adds c = rw c.if-adds.false (moved (goal.at.returns-else-adds c).Joined-gap-last)
