use Prim.Native.Nat.{◌-◌}
use lib.ListN.{length}
use Rattle.list_best.proofs.BestTests.{Rising}
use Rattle.list_best_tests.proofs.rises.Given as goal

abbrev pub invariant-loop-at : goal.invariant-loop-at
invariant-loop-at l = Rising l.vars l.keys l.list l.at

abbrev pub decreases-loop-at : goal.decreases-loop-at
decreases-loop-at l = length l.list - l.at
