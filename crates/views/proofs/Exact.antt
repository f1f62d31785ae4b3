-- The view of right tables holds exactly their visible rows.
use Prim.Native.Nat.{ℕ, ◌<◌}
use native.Mathlib.Omega.{arith}
use mathlib.Core.Path.{◌≡◌, sym}
use mathlib.Core.Bool.{true}
use mathlib.Core.List.{List}
use lib.Dec.{ltb}
use lib.ListN.{get_or}
use borrow.Author.Tests.{ltb-true}
use Rattle.sequences.proofs.Somewhere.{each_at}
use Rattle.tables.specs.declared.Order.TheVariants.{Spo}
use Rattle.tables.specs.Tables.{Tables, row_count, fields_of}
use Rattle.tables.specs.RowLists.{RowIn}
use Rattle.tables.specs.Right.{Right}
use Rattle.tables.proofs.MadeTables.{one_number_lem}
use Rattle.views.specs.Views.{visible, visible_numbers, view_count, view_rows, view_of}
use Rattle.views.specs.Renumbered.{new_number}
use Rattle.views.specs.Exactness.{VisibleRow, ExactlyVisible}
use Rattle.views.proofs.Lengths.{view_count_lem}
use Rattle.views.proofs.Rows.{view_fields, view_right, numbers_seen, numbers_there}
use Rattle.views.proofs.Renumbering.{placed}
use Rattle.views.proofs.Lists.{fields_anew}

module _ (t : Tables) (grant : List ℕ) (membership : ℕ) (w : Right t) where
  abbrev vs : List ℕ
  vs = visible_numbers t.rows grant membership

  view_from : (row : ℕ) → row < row_count (view_of t grant membership)
      → VisibleRow t grant membership (fields_of Spo (view_rows t.rows grant membership) row)
  view_from row h =
      let l : row < view_count t.rows grant membership = omega (arith, view_count_lem t.rows grant membership) in
      record {
        row = get_or vs row 0;
        there = ltb-true _ _ (each_at (λ i. ltb i (row_count t) ≡ true) vs 0 (numbers_there t grant membership) row l);
        passes = each_at (λ i. visible t.rows grant membership i ≡ true) vs 0 (numbers_seen t grant membership) row l;
        is = sym (view_fields t grant membership row l);
      }

  view_holds : (row : ℕ) → row < row_count t → visible t.rows grant membership row ≡ true
      → RowIn (view_of t grant membership) (fields_of Spo t.rows row)
  view_holds row h e =
      let p = placed (visible t.rows grant membership) (row_count t) row h e in
      let l = p.inside in
      record {
        row = new_number t.rows grant membership row;
        there = omega (arith, view_count_lem t.rows grant membership);
        is = fields_anew t grant membership Spo row h e;
      }

  pub view_exactly : ExactlyVisible t grant membership (view_of t grant membership)
  view_exactly =
      record {
        from = view_from;
        holds = view_holds;
        once = one_number_lem (view_rows t.rows grant membership) (view_right t grant membership w) Spo;
      }
