use Rattle.std.proofs.Common.{◌≡◌, ◌≤◌, ◌<◌, length}
use Rattle.upload_fates.specs.Judging.{marked}
use Rattle.upload_fates.proofs.mark_repeats.Given as goal

-- the places before `place` are marked
abbrev pub invariant-loop-place : goal.invariant-loop-place
invariant-loop-place l = (1 < l.place → l.place ≤ length l.list) × (l.fates ≡ marked l.upload l.list l.initial.fates l.place)
