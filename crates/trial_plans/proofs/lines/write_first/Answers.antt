-- `write_first` is safe: the bytes that it lends are there.
use native.Mathlib.Omega.{arith}
use lib.ListN.{length-take}
use Rattle.trial_plans.proofs.lines.write_first.Goals as goal

pub slice_bounds-text-end : goal.slice_bounds-text-end
slice_bounds-text-end g c = simp length-take (omega arith)
