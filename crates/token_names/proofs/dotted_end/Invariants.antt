use Rattle.tokens.specs.Runs.{dotted_end}
use Rattle.token_names.specs.Items.{item_of}
use Prim.Native.Nat.{◌-◌, ◌≤◌}
use mathlib.Core.Path.{◌≡◌}
use lib.ListN.{length, drop}
use Rattle.token_names.proofs.dotted_end.Given as goal

abbrev pub invariant-loop-at : goal.invariant-loop-at
invariant-loop-at l =
    (l.from ≤ l.end) × (l.end ≤ l.at) × (l.at ≤ length l.points)
    × (dotted_end (item_of l.local) 0 (drop l.from l.points) l.from l.from ≡ dotted_end (item_of l.local) 0 (drop l.at l.points) l.at l.end)

abbrev pub decreases-loop-at : goal.decreases-loop-at
decreases-loop-at l = length l.points - l.at
