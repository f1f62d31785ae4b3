-- `row_of` meets its contract: the row is written in front of the array.
use Rattle.words.specs.Bindings.{nothing_bound}
use Rattle.lists.proofs.Writing.{row_over}
use Rattle.list_rows.proofs.rows.row_of.Goals as goal

pub returns : goal.returns
returns c =
    let a = c.args in
    row_over a.vars.now a.bound.now nothing_bound c.write_row.new.buf c.write_row.ensures
