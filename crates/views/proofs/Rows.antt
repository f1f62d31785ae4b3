-- The visible rows of right tables are rows that tables may have.
use Prim.Native.Nat.{ℕ, suc, ◌<◌}
use native.Mathlib.Omega.{arith}
use mathlib.Core.Path.{◌≡◌, ◌∙◌, ap}
use mathlib.Core.Bool.{true}
use mathlib.Core.List.{List, [], map}
use lib.Dec.{ltb}
use lib.ListN.{length, get_or, length-map}
use borrow.Author.Tests.{ltb-true}
use Rattle.sequences.specs.Sequences.{numbers}
use Rattle.sequences.proofs.Ascending.{Ascending}
use Rattle.sequences.proofs.Each.{Each, each_kept, each_keep}
use Rattle.sequences.proofs.Numbers.{numbers_below, numbers_rise}
use Rattle.sequences.proofs.Somewhere.{each_at, map_at}
use Rattle.sequences.proofs.SortedStrictly.{ascending_keep, ascending_pairs}
use Rattle.tables.specs.declared.Order.TheVariants.{Spo}
use Rattle.tables.specs.Tables.{Tables, row_count, year_column, fields_of, field_right, year_right}
use Rattle.tables.specs.Right.{Right}
use Rattle.tables.specs.RowLists.{RowsRight}
use Rattle.tables.proofs.Ascending.{ascend}
use Rattle.tables.proofs.FlatRows.{own_field, flat_right, flat_fields}
use Rattle.views.specs.Views.{visible, visible_numbers, view_count, view_rows}
use Rattle.views.proofs.Lengths.{view_wide, view_most}

module _ (t : Tables) (grant : List ℕ) (membership : ℕ) where
  abbrev vs : List ℕ
  vs = visible_numbers t.rows grant membership

  abbrev at : ℕ → ℕ
  at r = get_or vs r 0

  pub numbers_seen : Each (λ r. visible t.rows grant membership r ≡ true) (visible_numbers t.rows grant membership)
  numbers_seen = each_kept (visible t.rows grant membership) (numbers (row_count t))

  pub numbers_there : Each (λ r. ltb r (row_count t) ≡ true) (visible_numbers t.rows grant membership)
  numbers_there =
      each_keep (λ r. ltb r (row_count t) ≡ true) (visible t.rows grant membership) (numbers (row_count t))
      (numbers_below (row_count t) (row_count t) (omega arith))

  rise : Ascending ltb vs
  rise = ascending_keep ltb (visible t.rows grant membership) (numbers (row_count t)) (numbers_rise (row_count t))

  abbrev fields : List (List ℕ)
  fields = map (fields_of Spo t.rows) vs

  fields_at : (r : ℕ) → r < length vs → get_or fields r [] ≡ fields_of Spo t.rows (at r)
  fields_at r h = map_at (fields_of Spo t.rows) vs 0 [] r h

  fields_count : length fields ≡ length vs
  fields_count = length-map vs (fields_of Spo t.rows)

  -- the row that stands at a place of the view
  pub view_fields : (r : ℕ) → r < view_count t.rows grant membership
      → fields_of Spo (view_rows t.rows grant membership) r ≡ fields_of Spo t.rows (get_or (visible_numbers t.rows grant membership) r 0)
  unfolding view_rows
  view_fields r h = flat_fields fields (view_wide t.rows grant membership) r (omega (arith, fields_count)) ∙ fields_at r h

  module _ (w : Right t) where
    there : (r : ℕ) → r < length vs → at r < row_count t
    there r h = ltb-true _ _ (each_at (λ i. ltb i (row_count t) ≡ true) vs 0 numbers_there r h)

    pub view_right : RowsRight (view_rows t.rows grant membership)
    unfolding view_rows
    view_right =
        flat_right fields
        (record {
          wide = view_wide t.rows grant membership;
          few = omega (arith, fields_count, view_most t.rows grant membership, w.sized.few);
          kinds = λ r c h k.
              let l : r < length vs = omega (arith, fields_count) in
              ap (field_right c) (ap (λ x. get_or x c 0) (fields_at r l) ∙ own_field t.rows (at r) c k) ∙ w.kinds (at r) c (there r l) k;
          years = λ r h.
              let l : r < length vs = omega (arith, fields_count) in
              ap year_right (ap (λ x. get_or x year_column 0) (fields_at r l) ∙ own_field t.rows (at r) year_column (omega arith))
              ∙ w.years (at r) (there r l);
          up = λ r h.
              let l : suc r < length vs = omega (arith, fields_count) in
              let m : r < length vs = omega arith in
              rw (fields_at r m, fields_at (suc r) l)
              (ascend t w Spo (at r) (at (suc r)) (ltb-true _ _ (ascending_pairs ltb vs 0 rise r (suc r) (omega arith) l)) (there (suc r) l));
        })
