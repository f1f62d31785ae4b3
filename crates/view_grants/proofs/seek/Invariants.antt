use Prim.Native.Nat.{◌≤◌}
use Rattle.view_grants.specs.Places.{first_from}
use Rattle.view_grants.proofs.seek.Given as goal

abbrev pub invariant-loop-at : goal.invariant-loop-at
invariant-loop-at l = l.at ≤ first_from l.grant l.word
