-- `lists_number` meets its contract: 17, then 18.
use Rattle.queue_changes.proofs.Numbering.{entries_fail, room_fails, both_pass}
use Rattle.queue_changes.proofs.changes.lists_number.Goals as goal

pub returns-then-not-entries : goal.returns-then-not-entries
returns-then-not-entries c = let a = c.args in entries_fail a.entries a.room c.if-not-entries.true-raw

pub returns-then-not-room : goal.returns-then-not-room
returns-then-not-room c = let a = c.args in room_fails a.entries a.room c.if-not-entries.false-raw c.if-not-room.true-raw

pub returns : goal.returns
returns c = let a = c.args in both_pass a.entries a.room c.if-not-entries.false-raw c.if-not-room.false-raw
