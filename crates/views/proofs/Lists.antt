-- The lists of a view are those of the tables: the visible rows of each, in their sequence, numbered anew.
use Prim.Native.Nat.{ℕ, ◌<◌}
use mathlib.Core.Path.{◌≡◌, sym, ◌∙◌, ap, ap₂}
use mathlib.Core.Bool.{true}
use mathlib.Core.List.{List, map}
use borrow.Author.Tests.{ltb-true}
use Rattle.sequences.specs.Sequences.{keep, numbers, lex_before}
use Rattle.sequences.specs.Sorting.{sort_by}
use Rattle.sequences.proofs.EachMore.{each_both}
use Rattle.sequences.proofs.KeepingSorted.{keep_sort}
use Rattle.sequences.proofs.SortedMaps.{sort_map}
use Rattle.tables.specs.declared.Order.{Order}
use Rattle.tables.specs.declared.Order.TheVariants.{Spo, Pos, Osp}
use Rattle.tables.specs.Tables.{Tables, row_count, fields_of}
use Rattle.tables.specs.Right.{Right}
use Rattle.tables.specs.RowLists.{number_before, row_numbers}
use Rattle.tables.proofs.RowNumbers.{number_ordered}
use Rattle.tables.proofs.OneTables.{made_again}
use Rattle.views.specs.Views.{visible, visible_numbers, view_rows, view_of}
use Rattle.views.specs.Renumbered.{new_number}
use Rattle.views.proofs.Lengths.{view_count_lem}
use Rattle.views.proofs.Rows.{view_fields, numbers_seen, numbers_there}
use Rattle.views.proofs.Renumbering.{numbered, placed}

-- rows that are the same in the rows' own order are the same in each
fields_alike : (o : Order) (rows others : List ℕ) (j i : ℕ) → fields_of Spo rows j ≡ fields_of Spo others i → fields_of o rows j ≡ fields_of o others i
unfolding fields_of
fields_alike Spo rows others j i e = e
fields_alike Pos rows others j i e = cc
fields_alike Osp rows others j i e = cc

module _ (t : Tables) (grant : List ℕ) (membership : ℕ) where
  abbrev view : List ℕ
  view = view_rows t.rows grant membership

  abbrev anew : ℕ → ℕ
  anew = new_number t.rows grant membership

  abbrev VisibleAt : ℕ → Type 0
  VisibleAt r = (r < row_count t) × (visible t.rows grant membership r ≡ true)

  -- a visible row has its fields in the view, at its new number
  pub fields_anew : (o : Order) (r : ℕ) → r < row_count t → visible t.rows grant membership r ≡ true
      → fields_of o (view_rows t.rows grant membership) (new_number t.rows grant membership r) ≡ fields_of o t.rows r
  fields_anew o r h e =
      let p = placed (visible t.rows grant membership) (row_count t) r h e in
      fields_alike o view t.rows (anew r) r (view_fields t grant membership (anew r) p.inside ∙ ap (fields_of Spo t.rows) p.is)

  agree : (o : Order) (x y : ℕ) → VisibleAt x → VisibleAt y → number_before o view (anew x) (anew y) ≡ number_before o t.rows x y
  agree o x y p q = ap₂ lex_before (fields_anew o x p.0 p.1) (fields_anew o y q.0 q.1)

  pub list_anew : (o : Order)
      → row_numbers o (view_rows t.rows grant membership)
      ≡ map (new_number t.rows grant membership) (keep (visible t.rows grant membership) (row_numbers o t.rows))
  unfolding row_numbers
  list_anew o =
      let vs = visible_numbers t.rows grant membership in
      let f = visible t.rows grant membership in
      ap (λ n. sort_by (number_before o view) (numbers n)) (view_count_lem t.rows grant membership)
      ∙ ap (sort_by (number_before o view)) (sym (numbered f (row_count t)))
      ∙ sym (sort_map (number_before o t.rows) (number_before o view) anew VisibleAt (agree o) vs
      (each_both (λ r l e. (ltb-true r (row_count t) l, e)) vs (numbers_there t grant membership) (numbers_seen t grant membership)))
      ∙ ap (map anew) (sym (keep_sort (number_before o t.rows) (number_ordered o t.rows) f (numbers (row_count t))))

  -- of right tables
  module _ (w : Right t) where
    pub pos_anew : (view_of t grant membership).pos
        ≡ map (new_number t.rows grant membership) (keep (visible t.rows grant membership) t.pos)
    pos_anew =
        list_anew Pos ∙ ap (λ (u : Tables). map anew (keep (visible t.rows grant membership) u.pos)) (sym (made_again t w))

    pub osp_anew : (view_of t grant membership).osp
        ≡ map (new_number t.rows grant membership) (keep (visible t.rows grant membership) t.osp)
    osp_anew =
        list_anew Osp ∙ ap (λ (u : Tables). map anew (keep (visible t.rows grant membership) u.osp)) (sym (made_again t w))
