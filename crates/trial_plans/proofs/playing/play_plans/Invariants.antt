use Prim.Native.Nat.{◌-◌, ◌≤◌}
use lib.ListN.{length}
use Rattle.trial_plans.proofs.playing.play_plans.Given as goal

abbrev pub invariant-loop-at : goal.invariant-loop-at
invariant-loop-at g l = l.at ≤ length l.plans

abbrev pub decreases-loop-at : goal.decreases-loop-at
decreases-loop-at g l = length l.plans - l.at
