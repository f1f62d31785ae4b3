-- The rows that an upload keeps, sorted, are rows that tables may have.
use Prim.Native.Nat.{ℕ, suc, ◌-◌, ◌≤◌, ◌<◌}
use native.Mathlib.Omega.{arith}
use mathlib.Core.Path.{◌≡◌, ◌∙◌, ap}
use mathlib.Core.Bool.{true}
use mathlib.Core.List.{List, [], map}
use lib.Dec.{ltb}
use lib.ListN.{length, get_or, length-map}
use Rattle.sequences.specs.Sequences.{numbers}
use Rattle.sequences.specs.Sorting.{sort_by}
use Rattle.sequences.proofs.Booleans.{absurd_true, Decided, yes, no, decided}
use Rattle.sequences.proofs.Ascending.{Ascending}
use Rattle.sequences.proofs.Each.{Each, each_map, each_kept, each_keep}
use Rattle.sequences.proofs.Flattening.{Wide}
use Rattle.sequences.proofs.Keeping.{length_keep}
use Rattle.sequences.proofs.Neighbours.{neighbour_same}
use Rattle.sequences.proofs.Numbers.{numbers_length, numbers_below, numbers_rise}
use Rattle.sequences.proofs.Somewhere.{each_at, map_at, at_some}
use Rattle.sequences.proofs.SortedNumbers.{totally, sort_ascends}
use Rattle.sequences.proofs.SortedStrictly.{ascending_keep}
use Rattle.sequences.proofs.SortingParts.{length_sort, each_sort}
use Rattle.tables.specs.declared.Order.TheVariants.{Spo}
use Rattle.tables.specs.Tables.{column_count, most_rows, year_column, fields_of, field_right, year_right}
use Rattle.tables.specs.RowLists.{number_before, RowsRight}
use Rattle.tables.proofs.Columns.{fields_length}
use Rattle.tables.proofs.FlatRows.{own_field, flat_right, flat_fields}
use Rattle.uploads.specs.Uploads.{upload_count, same_row, is_kept, kept_numbers, kept_count, made_rows}
use Rattle.uploads.proofs.SameRows.{good_field, good_year, fields_same}
use Rattle.uploads.proofs.Fates.{kept_good, kept_new}

module _ (up : List ℕ) where
  -- the kept numbers in the order of their rows
  abbrev pub sorted : List ℕ
  sorted = sort_by (number_before Spo up) (kept_numbers up)

  ascends : Ascending (totally (fields_of Spo up) column_count (fields_length Spo up)) sorted
  ascends =
      sort_ascends (fields_of Spo up) column_count (fields_length Spo up) (kept_numbers up)
      (ascending_keep ltb (is_kept up) (numbers (upload_count up)) (numbers_rise (upload_count up)))

  pub sorted_kept : Each (λ i. is_kept up i ≡ true) sorted
  sorted_kept =
      each_sort (λ i. is_kept up i ≡ true) (number_before Spo up) (kept_numbers up) (each_kept (is_kept up) (numbers (upload_count up)))

  pub sorted_below : Each (λ i. ltb i (upload_count up) ≡ true) sorted
  sorted_below =
      each_sort (λ i. ltb i (upload_count up) ≡ true) (number_before Spo up) (kept_numbers up)
      (each_keep (λ i. ltb i (upload_count up) ≡ true) (is_kept up) (numbers (upload_count up))
      (numbers_below (upload_count up) (upload_count up) (omega arith)))

  pub sorted_length : length sorted ≡ kept_count up
  sorted_length = length_sort (number_before Spo up) (kept_numbers up)

  pub kept_most : kept_count up ≤ upload_count up
  kept_most = omega (arith, length_keep (is_kept up) (numbers (upload_count up)), numbers_length (upload_count up))

  abbrev at : ℕ → ℕ
  at q = get_or sorted q 0

  -- no two have the same fields
  sorted_up : (q : ℕ) → suc q < length sorted → number_before Spo up (at q) (at (suc q)) ≡ true
  sorted_up q h = go (decided (number_before Spo up (at q) (at (suc q))))
    where
      go : Decided (number_before Spo up (at q) (at (suc q))) → number_before Spo up (at q) (at (suc q)) ≡ true
      go (yes p) = p
      go (no p) =
          let z : suc q - 1 ≡ q = omega arith in
          let n = neighbour_same (fields_of Spo up) column_count (fields_length Spo up) sorted ascends (suc q) (omega arith) h (rw z p) in
          let i = at (suc q) in
          absurd_true
          (at_some (λ k. same_row up k i) i (at (suc q - 1)) n.0 (fields_same up (at (suc q - 1)) i n.1))
          (kept_new up i (each_at (λ k. is_kept up k ≡ true) sorted 0 sorted_kept (suc q) h))

  -- ---- their fields, one row after the other
  abbrev fields : List (List ℕ)
  fields = map (fields_of Spo up) sorted

  pub made_wide : Wide column_count (map (fields_of Spo up) (sort_by (number_before Spo up) (kept_numbers up)))
  made_wide = each_map (λ (x : List ℕ). length x ≡ column_count) (fields_of Spo up) (fields_length Spo up) sorted

  fields_at : (r : ℕ) → r < length sorted → get_or fields r [] ≡ fields_of Spo up (at r)
  fields_at r h = map_at (fields_of Spo up) sorted 0 [] r h

  fields_count : length fields ≡ length sorted
  fields_count = length-map sorted (fields_of Spo up)

  pub kept_right_lem : upload_count up ≤ most_rows → RowsRight (made_rows up)
  unfolding made_rows
  kept_right_lem few =
      flat_right fields
      (record {
        wide = made_wide;
        few = omega (arith, fields_count, sorted_length, kept_most);
        kinds = λ r c h k.
            let l : r < length sorted = omega (arith, fields_count) in
            ap (field_right c) (ap (λ x. get_or x c 0) (fields_at r l) ∙ own_field up (at r) c k)
            ∙ good_field up (at r) c (kept_good up (at r) (each_at (λ i. is_kept up i ≡ true) sorted 0 sorted_kept r l)) k;
        years = λ r h.
            let l : r < length sorted = omega (arith, fields_count) in
            ap year_right (ap (λ x. get_or x year_column 0) (fields_at r l) ∙ own_field up (at r) year_column (omega arith))
            ∙ good_year up (at r) (kept_good up (at r) (each_at (λ i. is_kept up i ≡ true) sorted 0 sorted_kept r l));
        up = λ r h.
            let l : suc r < length sorted = omega (arith, fields_count) in
            let m : r < length sorted = omega arith in
            rw (fields_at r m, fields_at (suc r) l) (sorted_up r l);
      })

  -- the row that stands at a place of the made rows
  pub made_fields : (r : ℕ) → r < kept_count up
      → fields_of Spo (made_rows up) r ≡ fields_of Spo up (get_or (sort_by (number_before Spo up) (kept_numbers up)) r 0)
  unfolding made_rows
  made_fields r h =
      let l : r < length sorted = omega (arith, sorted_length) in
      flat_fields fields made_wide r (omega (arith, fields_count)) ∙ fields_at r l
