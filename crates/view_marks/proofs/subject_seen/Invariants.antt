use Prim.Native.Nat.{◌≤◌}
use mathlib.Core.Path.{◌≡◌}
use mathlib.Core.Bool.{◌||◌}
use Rattle.sequences.specs.Sequences.{some_below}
use Rattle.tables.specs.Tables.{year_column, subject_column, field_of}
use Rattle.view_marks.specs.Told.{told}
use Rattle.view_marks.proofs.subject_seen.Given as goal

abbrev pub invariant-loop-next : goal.invariant-loop-next
invariant-loop-next l =
    (l.row ≤ l.next)
    × (l.next ≤ l.count)
    × (l.seen ≡ (l.granted || some_below (told l.rows l.flags (field_of l.rows l.row year_column) (field_of l.rows l.row subject_column)) l.next))
