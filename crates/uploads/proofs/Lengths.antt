-- How many words are made: by the kept and the dropped rows.
use Prim.Native.Nat.{ℕ, ◌+◌, ◌*◌, ◌/◌}
use native.Mathlib.Omega.{arith}
use mathlib.Core.Path.{◌≡◌, refl, ◌∙◌, ap}
use mathlib.Core.List.{List, map}
use lib.ListN.{length, length-map}
use Rattle.sequences.specs.Sequences.{numbers}
use Rattle.sequences.specs.Sorting.{sort_by}
use Rattle.sequences.proofs.Each.{each_map}
use Rattle.sequences.proofs.Flattening.{Wide, length_flatten}
use Rattle.sequences.proofs.Keeping.{length_split}
use Rattle.sequences.proofs.Numbers.{numbers_length}
use Rattle.tables.specs.declared.Order.{Order}
use Rattle.tables.specs.declared.Order.TheVariants.{Spo}
use Rattle.tables.specs.Tables.{column_count, fields_of}
use Rattle.tables.specs.RowLists.{number_before, row_numbers}
use Rattle.tables.proofs.RowNumbers.{list_length}
use Rattle.uploads.specs.Uploads.{upload_count, is_kept, kept_numbers, kept_count, dropped_numbers, dropped_count}
use Rattle.uploads.specs.Uploads.{entry_words, entry_of, made_rows, dropped_report}
use Rattle.uploads.proofs.Kept.{made_wide, sorted_length}

module _ (up : List ℕ) where
  pub made_length : length (made_rows up) ≡ kept_count up * column_count
  unfolding made_rows
  made_length =
      let s = sort_by (number_before Spo up) (kept_numbers up) in
      length_flatten column_count (map (fields_of Spo up) s) (made_wide up)
      ∙ ap (λ n. n * column_count) (length-map s (fields_of Spo up) ∙ sorted_length up)

  pub made_count : length (made_rows up) / column_count ≡ kept_count up
  made_count = let e = made_length in omega arith

  pub numbers_made : (o : Order) → length (row_numbers o (made_rows up)) ≡ kept_count up
  numbers_made o = list_length o (made_rows up) ∙ made_count

  pub report_wide : Wide entry_words (map (entry_of up) (dropped_numbers up))
  report_wide = each_map (λ (x : List ℕ). length x ≡ entry_words) (entry_of up) (λ row. refl) (dropped_numbers up)

  pub report_length : length (dropped_report up) ≡ dropped_count up * entry_words
  unfolding dropped_report
  report_length =
      length_flatten entry_words (map (entry_of up) (dropped_numbers up)) report_wide
      ∙ ap (λ n. n * entry_words) (length-map (dropped_numbers up) (entry_of up))

  -- each row is kept or dropped
  pub all_rows_lem : kept_count up + dropped_count up ≡ upload_count up
  all_rows_lem = length_split (is_kept up) (numbers (upload_count up)) ∙ numbers_length (upload_count up)
