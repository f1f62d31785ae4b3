use Prim.Native.Nat.{◌≤◌}
use mathlib.Core.Path.{◌≡◌}
use mathlib.Core.List.{[]}
use mathlib.Core.Bool.{◌&&◌}
use lib.Dec.{ltb}
use Rattle.sequences.specs.Sequences.{count_below}
use Rattle.tables.specs.Tables.{tables_of}
use Rattle.tables.specs.Years.{year_at}
use Rattle.reach.specs.Reach.{begins_year}
use Rattle.reach_calls.proofs.years.years_before.Given as goal

abbrev pub invariant-loop-row : goal.invariant-loop-row
invariant-loop-row l =
    (l.row ≤ l.count) × (l.begun ≤ l.row)
    × (l.begun ≡ count_below (λ n. begins_year (tables_of l.rows [] []) n && ltb (year_at (tables_of l.rows [] []) n) l.year) l.row)
