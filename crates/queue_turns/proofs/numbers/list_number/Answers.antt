-- `list_number` meets its contract: 17, 18, then 19.
use Rattle.queue_turns.proofs.Numbering.{entries_fail, room_fails, line_empty, all_pass}
use Rattle.queue_turns.proofs.numbers.list_number.Goals as goal

pub returns-then-not-entries : goal.returns-then-not-entries
returns-then-not-entries c = let a = c.args in entries_fail a.waiting a.entries a.room c.if-not-entries.true-raw

pub returns-then-not-room : goal.returns-then-not-room
returns-then-not-room c = let a = c.args in room_fails a.waiting a.entries a.room c.if-not-entries.false-raw c.if-not-room.true-raw

pub returns-then-waiting-eq0 : goal.returns-then-waiting-eq0
returns-then-waiting-eq0 c =
    let a = c.args in
    line_empty a.waiting a.entries a.room c.if-not-entries.false-raw c.if-not-room.false-raw c.if-waiting-eq0.true

pub returns : goal.returns
returns c =
    let a = c.args in
    all_pass a.waiting a.entries a.room c.if-not-entries.false-raw c.if-not-room.false-raw c.if-waiting-eq0.false
