-- `print_kept` is safe: the words that it lends are there.
use native.Mathlib.Omega.{arith}
use lib.ListN.{length-take}
use Rattle.trial_plans.proofs.lines.print_kept.Goals as goal

pub slice_bounds-list-end : goal.slice_bounds-list-end
slice_bounds-list-end g c = simp length-take (omega arith)
