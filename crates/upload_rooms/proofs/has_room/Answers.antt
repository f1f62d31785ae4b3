-- `has_room` meets its contract: there is room for the tables and for the report.
use Rattle.std.proofs.Common.{sym, ◌∙◌}
use Rattle.upload_rooms.proofs.Rooms.{tables_and_report}
use Rattle.upload_rooms.proofs.has_room.Goals as goal

pub returns-then-has_room : goal.returns-then-has_room
returns-then-has_room c =
    let a = c.args in
    rw (sym c.has_room.ensures ∙ c.if-has_room.true) at (tables_and_report a.kept a.dropped a.rows a.pos a.osp a.report)

pub returns-else-has_room : goal.returns-else-has_room
returns-else-has_room c =
    let a = c.args in
    c.if-has_room.false
    ∙ (rw (sym c.has_room.ensures ∙ c.if-has_room.false) at (tables_and_report a.kept a.dropped a.rows a.pos a.osp a.report))
