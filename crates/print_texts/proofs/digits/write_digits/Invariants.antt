use Prim.Native.Nat.{◌-◌, ◌≤◌}
use mathlib.Core.Path.{◌≡◌}
use lib.ListN.{length}
use Rattle.print_texts.specs.Texts.{decimal}
use Rattle.print_texts.specs.Placing.{placed}
use Rattle.print_texts.proofs.digits.write_digits.Given as goal

abbrev pub invariant-loop-rest : goal.invariant-loop-rest
invariant-loop-rest l =
    (length (decimal l.rest) ≤ l.i)
    × (l.i ≤ l.end)
    × (length l.line ≡ length l.initial.line)
    × (placed (decimal l.rest) (l.i - length (decimal l.rest)) l.line ≡ placed (decimal l.x) (l.end - length (decimal l.x)) l.initial.line)

abbrev pub decreases-loop-rest : goal.decreases-loop-rest
decreases-loop-rest l = l.rest
