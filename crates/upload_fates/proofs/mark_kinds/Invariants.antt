use Rattle.std.proofs.Common.{◌≡◌, ◌≤◌, take}
use Rattle.upload_fates.specs.Judging.{good_numbers, Marked}
use Rattle.upload_fates.proofs.mark_kinds.Given as goal

-- the rows before `row` are marked, and those of right kinds listed
abbrev pub invariant-loop-row : goal.invariant-loop-row
invariant-loop-row l = (l.right ≤ l.row) × (take l.right l.list ≡ good_numbers l.upload l.row) × Marked l.upload l.fates l.row
