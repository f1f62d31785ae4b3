-- `totals_right` meets its contract.
use borrow.Author.Tests.{le-leb, lt-leb}
use Rattle.list_group_merges.proofs.validity.totals_right.Goals as goal

pub returns-then-t-least : goal.returns-then-t-least
returns-then-t-least c =
    let s = c.args in
    rw (lt-leb s.least s.t.rows c.if-t-least.true)

pub returns-then-t : goal.returns-then-t
returns-then-t c =
    let s = c.args in
    rw (le-leb s.least s.t.rows c.if-t-least.false, lt-leb s.t.numbers s.t.rows c.if-t.true)

pub returns : goal.returns
returns c =
    let s = c.args in
    rw (le-leb s.least s.t.rows c.if-t-least.false, le-leb s.t.numbers s.t.rows c.if-t.false)
    c.extremes_right.ensures
