use Prim.Native.Nat.{◌-◌, ◌≤◌}
use mathlib.Core.Path.{◌≡◌}
use lib.ListN.{drop}
use lib.Dec.{ltb}
use Rattle.sequences.specs.Sequences.{neighbours}
use Rattle.view_grants.proofs.ascends.Given as goal

abbrev pub invariant-loop-at : goal.invariant-loop-at
invariant-loop-at l = (1 ≤ l.at) × (neighbours ltb l.grant ≡ neighbours ltb (drop (l.at - 1) l.grant))
