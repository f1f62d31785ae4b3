-- How many words a wood has: two rows for each stem.
use Prim.Native.Nat.{ℕ, ◌*◌}
use native.Mathlib.Omega.{arith}
use mathlib.Core.Path.{◌≡◌, ◌∙◌, ap}
use mathlib.Core.List.{flatten}
use lib.ListN.{length}
use Rattle.sequences.proofs.Flattening.{length_flatten}
use Rattle.tables.specs.declared.Order.{Order}
use Rattle.tables.specs.Tables.{column_count}
use Rattle.tables.specs.RowLists.{row_numbers}
use Rattle.tables.proofs.RowNumbers.{list_length}
use Rattle.woods.specs.Woods.{wood_rows}
use Rattle.woods.specs.Refusals.{rows_for}
use Rattle.woods.proofs.Stems.{wood_length, wood_wide}

module _ (seed stems year : ℕ) where
  pub rows_length : length (flatten (wood_rows seed year stems)) ≡ rows_for stems * column_count
  rows_length =
      length_flatten column_count (wood_rows seed year stems) (wood_wide seed year stems) ∙ ap (λ n. n * column_count) (wood_length seed year stems)

  pub list_counts : (o : Order) → length (row_numbers o (flatten (wood_rows seed year stems))) ≡ rows_for stems
  list_counts o = let e = rows_length in omega (arith, list_length o (flatten (wood_rows seed year stems)))
