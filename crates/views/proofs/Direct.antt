-- Where no object is granted, the membership predicate does not matter: granted subjects alone are visible.
use Prim.Native.Nat.{ℕ, ◌/◌, ◌<◌}
use mathlib.Core.Path.{◌≡◌, refl, sym, ◌∙◌, ap}
use mathlib.Core.Bool.{Bool, true, false, not, ◌&&◌, ◌||◌, or-false}
use mathlib.Core.List.{List, map, flatten}
use lib.Dec.{eqb}
use lib.ListN.{length}
use borrow.Author.Tests.{not-true}
use Rattle.sequences.specs.Sequences.{all_below, member, numbers}
use Rattle.sequences.proofs.Counting.{all_at_lem, at_all}
use Rattle.sequences.proofs.EachMore.{each_always}
use Rattle.sequences.proofs.Keeping.{keep_agree}
use Rattle.tables.specs.declared.Order.TheVariants.{Spo}
use Rattle.tables.specs.Tables.{column_count, year_column, subject_column, predicate_column, object_column, field_of, fields_of}
use Rattle.views.specs.Views.{is_of, admits, visible, view_rows}

and-false : (a b : Bool) → a && (b && false) ≡ false
and-false true true = refl
and-false true false = refl
and-false false b = refl

module _ (rows grant : List ℕ) (none : all_below (λ row. not (member (field_of rows row object_column) grant)) (length rows / column_count) ≡ true) where
  admits_none : (membership year s row : ℕ) → row < length rows / column_count → admits rows grant membership year s row ≡ false
  unfolding admits
  admits_none membership year s row h =
      rw (not-true (member (field_of rows row object_column) grant) (all_at_lem (λ i. not (member (field_of rows i object_column) grant)) _ none row h))
      (and-false (is_of rows year s row) (eqb (field_of rows row predicate_column) membership))

  direct : (membership row : ℕ) → visible rows grant membership row ≡ member (field_of rows row subject_column) grant
  unfolding visible
  direct membership row =
      let y = field_of rows row year_column in
      let s = field_of rows row subject_column in
      let e = at_all (λ i. not (admits rows grant membership y s i)) (length rows / column_count) (λ i h. rw (admits_none membership y s i h)) in
      ap (λ b. member s grant || not b) e ∙ or-false (member s grant)

  pub any_membership : (membership other : ℕ) → view_rows rows grant membership ≡ view_rows rows grant other
  unfolding view_rows
  any_membership membership other =
      let ns = numbers (length rows / column_count) in
      ap (λ l. flatten (map (fields_of Spo rows) l))
      (keep_agree (visible rows grant membership) (visible rows grant other) ns
      (each_always (λ row. direct membership row ∙ sym (direct other row)) ns))
