use Rattle.std.proofs.Common.{◌≡◌, ◌-◌, true, drop}
use Rattle.sequences.specs.Sequences.{lex_before}
use Rattle.tables.specs.Tables.{tables_of}
use Rattle.table_walk_keys.specs.Walk.{keys_at, right_upto}
use Rattle.table_walk_keys.proofs.Walking.{RightBefore}
use Rattle.table_walks.proofs.walk.Given as goal

-- whether the row comes before the next by the columns from `column` on
abbrev pub invariant-loop-column : goal.invariant-loop-column
invariant-loop-column l = l.before ≡ lex_before (drop l.column l.last) (drop l.column l.next)

-- of this order the places before `place` are right, and `last` has the keys of the one before it
abbrev pub invariant-loop-place : goal.invariant-loop-place
invariant-loop-place l =
    let t = tables_of l.own l.by_predicate l.by_object in
    (l.last ≡ keys_at l.alike l.order t (l.place - 1)) × (right_upto l.alike t l.order l.place ≡ true)

-- the orders before `turn` are right, and counted
abbrev pub invariant-orders : goal.invariant-orders
invariant-orders l = RightBefore l.alike (tables_of l.own l.by_predicate l.by_object) l.turn × (l.right ≡ l.turn)
