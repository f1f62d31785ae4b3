use Prim.Native.Nat.{◌+◌, ◌≤◌}
use mathlib.Core.Path.{◌≡◌}
use lib.ListN.{drop}
use Rattle.registers.specs.Registers.{count_at}
use Rattle.register_reports.proofs.counts.count_at.Given as goal

abbrev pub invariant-loop-register : goal.invariant-loop-register
invariant-loop-register l =
    (l.count ≤ l.register-index) × (count_at l.value l.list ≡ l.count + count_at l.value (drop l.register-index l.list))
