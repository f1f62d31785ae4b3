-- `play_cut` is safe: the words of the output are there.
use native.Mathlib.Omega.{arith}
use lib.ListN.{length-take}
use Rattle.trial_plans.proofs.playing.play_cut.Goals as goal

pub slice_bounds-play-end-2 : goal.slice_bounds-play-end-2
slice_bounds-play-end-2 g c = simp length-take (omega arith)
