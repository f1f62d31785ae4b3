use Prim.Native.Nat.{◌-◌, ◌≤◌}
use mathlib.Core.Path.{◌≡◌}
use lib.ListN.{length, take, drop}
use Rattle.view_calls.specs.Writing.{shown_numbers}
use Rattle.view_calls.proofs.writing.write_numbers.Given as goal

abbrev pub invariant-loop-used : goal.invariant-loop-used
invariant-loop-used l =
    (l.place ≤ length l.list)
    × (length l.view ≡ length l.initial.view)
    × (l.used ≡ length (shown_numbers l.marks (take l.place l.list)))
    × (take l.used l.view ≡ shown_numbers l.marks (take l.place l.list))
    × (drop l.seen l.view ≡ drop l.seen l.initial.view)

abbrev pub decreases-loop-used : goal.decreases-loop-used
decreases-loop-used l = length l.list - l.place
