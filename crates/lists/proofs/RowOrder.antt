-- The order of rows by an ending's keys is a strict order, in which rows equal in all keys are alike.
use Prim.Native.Nat.{ℕ}
use mathlib.Core.List.{List}
use lib.ListN.{length, length-map}
use Rattle.sequences.proofs.Orders.{Ordered, lex_ordered}
use Rattle.lists.specs.Rows.{rank_by, key_value, row_ranks, row_before}

-- each row has as many ranks as there are keys
pub rows_ordered : (vs keys : List ℕ) → Ordered (row_before vs keys)
unfolding row_before row_ranks
rows_ordered vs keys =
    lex_ordered (row_ranks vs keys) (length keys) (λ row. length-map keys (λ key. rank_by key (key_value vs row key)))
