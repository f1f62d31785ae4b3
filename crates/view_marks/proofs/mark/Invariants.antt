use Prim.Native.Nat.{◌-◌, ◌≤◌, ◌<◌}
use mathlib.Core.Path.{◌≡◌}
use lib.ListN.{length}
use Rattle.sequences.specs.Sequences.{over}
use Rattle.tables.specs.Tables.{year_column, subject_column, field_of}
use Rattle.views.specs.Renumbered.{passed_before}
use Rattle.view_grants.specs.Places.{first_from}
use Rattle.view_marks.specs.Marks.{marks_of}
use Rattle.view_marks.specs.Told.{seen_by}
use Rattle.view_marks.proofs.mark.Given as goal

abbrev pub invariant-loop-row : goal.invariant-loop-row
invariant-loop-row l =
    (l.row ≤ l.count)
    × (l.number ≡ passed_before (seen_by l.rows l.grant l.flags) l.row)
    × (length l.marks ≡ length l.initial.marks)
    × (l.marks ≡ over (marks_of (seen_by l.rows l.grant l.flags) l.row) l.initial.marks)
    × (l.row < l.count → 0 < l.row → field_of l.rows (l.row - 1) year_column ≡ field_of l.rows l.row year_column
    → l.before.from ≤ first_from l.grant (field_of l.rows l.row subject_column))
    × (0 < l.row → l.before.seen ≡ seen_by l.rows l.grant l.flags (l.row - 1))
