-- The numbers of the rows of right kinds, sorted: they ascend by their fields and then by themselves, and each such row stands there.
use Prim.Native.Nat.{ℕ, ◌+◌, ◌*◌, ◌<◌}
use native.Mathlib.Omega.{arith}
use mathlib.Core.Path.{◌≡◌}
use mathlib.Core.Bool.{true}
use mathlib.Core.List.{List}
use lib.Dec.{ltb}
use lib.ListN.{length}
use borrow.Author.Tests.{le-leb}
use Rattle.sequences.specs.Sequences.{all, keep, numbers}
use Rattle.sequences.proofs.Ascending.{Ascending}
use Rattle.sequences.proofs.Each.{Each, each_all, all_each, each_kept, each_keep}
use Rattle.sequences.proofs.Numbers.{numbers_all, numbers_below, numbers_rise, kept_stands}
use Rattle.sequences.proofs.Somewhere.{Stands}
use Rattle.sequences.proofs.SortedNumbers.{totally, sort_ascends}
use Rattle.sequences.proofs.SortedStrictly.{ascending_keep}
use Rattle.sequences.proofs.SortingParts.{each_sort, all_sort}
use Rattle.tables.specs.declared.Order.TheVariants.{Spo}
use Rattle.tables.specs.Tables.{column_count, fields_of}
use Rattle.tables.specs.RowLists.{in_rows, number_before}
use Rattle.tables.proofs.Columns.{fields_length}
use Rattle.uploads.specs.Uploads.{upload_count, kinds_good}
use Rattle.upload_fates.specs.Judging.{good_numbers, right_numbers}

module _ (up : List ℕ) where
  pub right_ascends : Ascending (totally (fields_of Spo up) column_count (fields_length Spo up)) (right_numbers up)
  unfolding right_numbers
  right_ascends =
      sort_ascends (fields_of Spo up) column_count (fields_length Spo up) (keep (kinds_good up) (numbers (upload_count up)))
      (ascending_keep ltb (kinds_good up) (numbers (upload_count up)) (numbers_rise (upload_count up)))

  pub right_good : Each (λ x. kinds_good up x ≡ true) (right_numbers up)
  unfolding right_numbers
  right_good =
      each_sort (λ x. kinds_good up x ≡ true) (number_before Spo up) (good_numbers up (upload_count up))
      (each_kept (kinds_good up) (numbers (upload_count up)))

  pub right_stands : (i : ℕ) → i < upload_count up → kinds_good up i ≡ true → Stands (right_numbers up) i
  unfolding right_numbers
  right_stands i h g = kept_stands (number_before Spo up) (kinds_good up) (upload_count up) i h g

  -- each is below the count of rows, and its words are there
  pub right_below : Each (λ row. ltb row (upload_count up) ≡ true) (right_numbers up)
  unfolding right_numbers
  right_below =
      each_sort (λ row. ltb row (upload_count up) ≡ true) (number_before Spo up) (good_numbers up (upload_count up))
      (each_keep (λ row. ltb row (upload_count up) ≡ true) (kinds_good up) (numbers (upload_count up))
      (numbers_below (upload_count up) (upload_count up) (omega arith)))

  pub good_named : all (in_rows up) (good_numbers up (upload_count up)) ≡ true
  good_named =
      each_all (in_rows up) (good_numbers up (upload_count up))
      (each_keep (λ x. in_rows up x ≡ true) (kinds_good up) (numbers (upload_count up))
      (all_each (in_rows up) (numbers (upload_count up))
      (numbers_all (in_rows up) (upload_count up) (λ i h. le-leb (i * column_count + column_count) (length up) (omega arith)))))

  pub right_named : all (in_rows up) (right_numbers up) ≡ true
  unfolding right_numbers
  right_named = all_sort (number_before Spo up) (in_rows up) (good_numbers up (upload_count up)) good_named
