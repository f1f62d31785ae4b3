-- `over_first` is safe: the parts that it lends are there.
use native.Mathlib.Omega.{arith}
use lib.ListN.{length-take}
use Rattle.trial_limits.proofs.wood.over_first.Goals as goal

pub slice_bounds-turned-end : goal.slice_bounds-turned-end
slice_bounds-turned-end c = simp length-take (omega arith)

pub slice_bounds-turned-end-then-last-list : goal.slice_bounds-turned-end-then-last-list
slice_bounds-turned-end-then-last-list c = simp length-take (omega arith)
