use Rattle.std.proofs.Common.{◌≡◌, length, take}
use Rattle.sequences.specs.Sequences.{over}
use Rattle.upload_writes.specs.Writing.{kept_words}
use Rattle.upload_writes.proofs.rows.write_rows.Given as goal

-- the kept rows among those before this one are written
abbrev pub invariant-loop-row : goal.invariant-loop-row
invariant-loop-row l =
    (l.used ≡ length (kept_words l.upload l.fates (take l.row-index l.list)))
    × (l.rows ≡ over (kept_words l.upload l.fates (take l.row-index l.list)) l.initial.rows)
