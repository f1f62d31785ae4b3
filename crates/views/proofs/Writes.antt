-- When a call is served, in counts of rows, and what it then writes.
use mathlib.Core.Logic.{◌↔◌}
use Rattle.words.proofs.Numbering.{both_pass}
use Rattle.words.proofs.Testing.{test_passed, passes_all, all_passes}
use Rattle.calls.specs.Calls.{NotRefused}
use Rattle.tables.specs.declared.Order.TheVariants.{Pos, Osp}
use Rattle.tables.specs.Tables.{table_tests}
use Rattle.table_answers.specs.Counts.{TablesCount}
use Rattle.table_answers.proofs.Rooms.{room_fits}
use Rattle.table_answers.proofs.Written.{tables_over}
use Rattle.views.specs.Viewing.{ViewInput, view_in, view_own_tests, view_tests, view_schema, view_call_of}
use Rattle.views.specs.Refusals.{seen_in, ViewSuffices, ViewWrites}
use Rattle.views.proofs.Lengths.{view_length, numbers_view}
use Rattle.views.proofs.Refusals.{viewed_so, view_refusals}

module _ (i : ViewInput) where
  pub view_counts : TablesCount (view_in i) (seen_in i)
  view_counts =
      let n = numbers_view i.tables.rows i.grant i.membership in
      record { rows = view_length i.tables.rows i.grant i.membership; pos = n Pos; osp = n Osp }

  suffices : NotRefused view_schema i → ViewSuffices i
  suffices m =
      let p = (view_refusals i).served.0 m in
      record {
        accepted = (both_pass (table_tests i.tables) (view_own_tests i) (all_passes (view_tests i) p)).0;
        grant = test_passed 20 (view_tests i) p;
        room = (room_fits (view_in i) i.buffers (seen_in i) view_counts).0 (test_passed 21 (view_tests i) p);
      }

  -- served exactly for accepted tables, a right grant, and buffers that are no shorter than what is written
  pub view_suffices : NotRefused view_schema i ↔ ViewSuffices i
  view_suffices = (
    suffices,
    λ s. let t = passes_all (table_tests i.tables) s.accepted in
        let r = (room_fits (view_in i) i.buffers (seen_in i) view_counts).1 s.room in
        (view_refusals i).served.1 (t.0, (t.1.0, (t.1.1.0, (t.1.1.1.0, (t.1.1.1.1.0, (s.grant, (r, tt))))))),
  )

  pub view_writes : NotRefused view_schema i → ViewWrites i
  view_writes m = tables_over (view_in i) i.buffers (view_call_of i) (viewed_so i m) (seen_in i) view_counts
