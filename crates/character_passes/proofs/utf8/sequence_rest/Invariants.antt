use Rattle.dictionary_checks.specs.Steps.{spans_in}
use Rattle.characters.specs.Sequences.{sequence_from}
use Rattle.character_passes.proofs.Continuing.{bits_below}
use Prim.Native.Nat.{◌-◌, ◌≤◌, ◌<◌}
use mathlib.Core.Path.{◌≡◌}
use lib.ListN.{length, drop}
use Rattle.character_passes.proofs.utf8.sequence_rest.Given as goal

abbrev pub invariant-loop-rest : goal.invariant-loop-rest
invariant-loop-rest l =
    (l.from ≤ l.at) × (l.at ≤ length l.text) × (l.point < bits_below l.rest)
    × (sequence_from (drop l.from l.text) (spans_in l.initial.rest) l.bits 0 ≡ sequence_from (drop l.at l.text) (spans_in l.rest) l.point (l.at - l.from))

abbrev pub decreases-loop-rest : goal.decreases-loop-rest
decreases-loop-rest l = length l.text - l.at
