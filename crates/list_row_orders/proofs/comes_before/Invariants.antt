use Rattle.std.proofs.Common.{◌≡◌, drop}
use Rattle.lists.specs.Rows.{row_before}
use Rattle.list_row_orders.proofs.comes_before.Given as goal

abbrev pub invariant-loop-key : goal.invariant-loop-key
invariant-loop-key l = row_before l.vars l.keys l.a l.b ≡ row_before l.vars (drop l.key-index l.keys) l.a l.b
