use Prim.Native.Nat.{◌*◌}
use mathlib.Core.Path.{◌≡◌}
use mathlib.Core.List.{flatten}
use Rattle.sequences.specs.Sequences.{iterate, over}
use Rattle.tables.specs.Tables.{column_count}
use Rattle.woods.specs.Woods.{next_draw, wood_rows}
use Rattle.woods.specs.Refusals.{rows_for}
use Rattle.wood_rows.proofs.write_rows.Given as goal

abbrev pub invariant-loop-stem : goal.invariant-loop-stem
invariant-loop-stem l =
    (l.used ≡ rows_for l.stem * column_count)
    × (l.x ≡ iterate next_draw (2 * l.stem) l.seed)
    × (l.rows ≡ over (flatten (wood_rows l.seed l.year l.stem)) l.initial.rows)
