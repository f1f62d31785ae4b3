use Rattle.tokens.specs.Texts.{text_from}
use Prim.Native.Nat.{◌-◌, ◌≤◌}
use mathlib.Core.Path.{◌≡◌}
use lib.ListN.{length, drop}
use Rattle.token_texts.proofs.text_from.Given as goal

abbrev pub invariant-loop-at : goal.invariant-loop-at
invariant-loop-at l =
    (l.from ≤ l.at) × (l.at ≤ length l.points)
    × (text_from l.long l.q 0 (drop l.from l.points) (l.from - l.first) ≡ text_from l.long l.q 0 (drop l.at l.points) (l.at - l.first))

abbrev pub decreases-loop-at : goal.decreases-loop-at
decreases-loop-at l = length l.points - l.at
