-- `opened` is safe: the part of the words that it lends is there.
use native.Mathlib.Omega.{arith}
use lib.ListN.{length-take}
use Rattle.trial_limits.proofs.opened.Goals as goal

pub slice_bounds-open-end-then-used-words-3 : goal.slice_bounds-open-end-then-used-words-3
slice_bounds-open-end-then-used-words-3 c = simp length-take (omega arith)
