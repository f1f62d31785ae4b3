use mathlib.Core.Path.{◌≡◌}
use lib.ListN.{length, take}
use Rattle.conditions.specs.Values.{lefts_of}
use Rattle.condition_values.proofs.operands.index_operands.Given as goal

abbrev pub invariant-loop-at : goal.invariant-loop-at
invariant-loop-at l = (length l.lefts ≡ length l.initial.lefts) × (take l.at l.lefts ≡ take l.at (lefts_of l.plan))
