use Prim.Native.Nat.{◌-◌, ◌*◌, ◌/◌, ◌≤◌}
use mathlib.Core.Path.{◌≡◌}
use lib.ListN.{length, take, drop}
use Rattle.sequences.specs.Sequences.{numbers}
use Rattle.tables.specs.declared.Order.TheVariants.{Spo}
use Rattle.tables.specs.Tables.{column_count, fields_of}
use Rattle.views.specs.Renumbered.{passed_before}
use Rattle.upload_writes.specs.Writing.{written_for}
use Rattle.view_calls.specs.Writing.{shown_by}
use Rattle.view_calls.proofs.writing.write_rows.Given as goal

abbrev pub invariant-loop-used : goal.invariant-loop-used
invariant-loop-used l =
    (l.row ≤ length l.rows / column_count)
    × (length l.view ≡ length l.initial.view)
    × (l.used ≡ passed_before (shown_by l.marks) l.row)
    × (l.used ≤ l.seen)
    × (take (l.used * column_count) l.view ≡ written_for (shown_by l.marks) (fields_of Spo l.rows) (numbers l.row))
    × (drop (l.seen * column_count) l.view ≡ drop (l.seen * column_count) l.initial.view)

abbrev pub decreases-loop-used : goal.decreases-loop-used
decreases-loop-used l = length l.rows / column_count - l.row
