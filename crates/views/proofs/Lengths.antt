-- How many words a view has: by its visible rows.
use Prim.Native.Nat.{ℕ, ◌*◌, ◌/◌, ◌≤◌}
use native.Mathlib.Omega.{arith}
use mathlib.Core.Path.{◌≡◌, ◌∙◌, ap}
use mathlib.Core.List.{List, map}
use lib.ListN.{length, length-map}
use Rattle.sequences.specs.Sequences.{numbers}
use Rattle.sequences.proofs.Each.{each_map}
use Rattle.sequences.proofs.Flattening.{Wide, length_flatten}
use Rattle.sequences.proofs.Keeping.{length_keep}
use Rattle.sequences.proofs.Numbers.{numbers_length}
use Rattle.tables.specs.declared.Order.{Order}
use Rattle.tables.specs.declared.Order.TheVariants.{Spo}
use Rattle.tables.specs.Tables.{column_count, fields_of}
use Rattle.tables.specs.RowLists.{row_numbers}
use Rattle.tables.proofs.Columns.{fields_length}
use Rattle.tables.proofs.RowNumbers.{list_length}
use Rattle.views.specs.Views.{visible, visible_numbers, view_count, view_rows}

module _ (rows grant : List ℕ) (membership : ℕ) where
  pub view_wide : Wide column_count (map (fields_of Spo rows) (visible_numbers rows grant membership))
  view_wide =
      each_map (λ (x : List ℕ). length x ≡ column_count) (fields_of Spo rows) (fields_length Spo rows) (visible_numbers rows grant membership)

  pub view_length : length (view_rows rows grant membership) ≡ view_count rows grant membership * column_count
  unfolding view_rows
  view_length =
      length_flatten column_count (map (fields_of Spo rows) (visible_numbers rows grant membership)) view_wide
      ∙ ap (λ n. n * column_count) (length-map (visible_numbers rows grant membership) (fields_of Spo rows))

  pub view_count_lem : length (view_rows rows grant membership) / column_count ≡ view_count rows grant membership
  view_count_lem = let e = view_length in omega arith

  pub numbers_view : (o : Order) → length (row_numbers o (view_rows rows grant membership)) ≡ view_count rows grant membership
  numbers_view o = list_length o (view_rows rows grant membership) ∙ view_count_lem

  pub view_most : view_count rows grant membership ≤ length rows / column_count
  view_most =
      omega (arith, length_keep (visible rows grant membership) (numbers (length rows / column_count)), numbers_length (length rows / column_count))
