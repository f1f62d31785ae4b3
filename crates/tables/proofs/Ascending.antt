-- Places in an order of right tables are sorted, and each row stands at exactly one place of each order.
use Prim.Native.Nat.{ℕ, ◌<◌}
use mathlib.Core.Path.{◌≡◌, ap}
use mathlib.Core.Bool.{Bool, true}
use Rattle.sequences.specs.Sequences.{lex_before, count_below}
use Rattle.sequences.proofs.Pigeonhole.{Injection, Hit, all_hit}
use Rattle.sequences.proofs.Permuting.{count_permuted}
use Rattle.tables.specs.declared.Order.{Order}
use Rattle.tables.specs.Tables.{Tables, column_count, row_count, row_at, fields_of, fields_at}
use Rattle.tables.specs.Right.{Right}
use Rattle.tables.proofs.Columns.{fields_length}
use Rattle.tables.proofs.Sorted.{Sorted}
use Rattle.tables.proofs.Sorted as sorted

module _ (t : Tables) (w : Right t) (o : Order) where
  -- its fields, one a column, come before those of the next place
  pub order_sorted : Sorted column_count (row_count t) (fields_at o t)
  order_sorted = record { width = λ place h. fields_length o t.rows (row_at o t place); up = w.up o }

  -- an earlier place has its fields before those of a later one, and no two have the same
  pub ascend : (j i : ℕ) → j < i → i < row_count t → lex_before (fields_at o t j) (fields_at o t i) ≡ true
  ascend = sorted.ascend column_count (row_count t) (fields_at o t) order_sorted

  pub one_fields : (j i : ℕ) → j < row_count t → i < row_count t → fields_at o t j ≡ fields_at o t i → j ≡ i
  one_fields = sorted.one_fields column_count (row_count t) (fields_at o t) order_sorted

  -- no row stands at two places
  pub one_place : (j i : ℕ) → j < row_count t → i < row_count t → row_at o t j ≡ row_at o t i → j ≡ i
  one_place j i l k e = one_fields j i l k (ap (fields_of o t.rows) e)

  pub order_injection : Injection (row_at o t) (row_count t) (row_count t)
  order_injection = record { into = w.named o; once = one_place }

  -- each row stands at some place
  pub place_of : (row : ℕ) → row < row_count t → Hit (row_at o t) (row_count t) row
  place_of = all_hit (row_at o t) (row_count t) order_injection

  -- as many places of an order as rows pass a test of the row
  pub count_rows : (f : ℕ → Bool) → count_below (λ place. f (row_at o t place)) (row_count t) ≡ count_below f (row_count t)
  count_rows f = count_permuted f (row_at o t) (row_count t) order_injection
