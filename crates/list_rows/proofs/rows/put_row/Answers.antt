-- `put_row` meets its contract: the row is written behind the list where there is room for it.
use native.Mathlib.Omega.{arith}
use Rattle.lists.proofs.Writing.{no_room, room}
use Rattle.list_rows.proofs.rows.put_row.Goals as goal

pub returns-then-out-used : goal.returns-then-out-used
returns-then-out-used c =
    no_room c.args.vars.now c.args.bound.now c.args.out.now c.args.used c.requires c.if-out-used.true

pub returns : goal.returns
returns c =
    room c.args.vars.now c.args.bound.now c.args.out.now c.args.used c.requires (omega arith) c.write_row.new.buf
    c.write_row.ensures
