-- What the judged rows of an upload make is what is defined.
use Prim.Native.Nat.{ℕ}
use native.Mathlib.Omega.{arith}
use mathlib.Core.Path.{◌≡◌, refl, ◌∙◌, ap}
use mathlib.Core.Bool.{true, not}
use mathlib.Core.List.{List, [], ◌∷◌, map, flatten}
use lib.Dec.{eqb, ltb}
use lib.ListN.{length, get_or}
use borrow.Author.Tests.{ltb-true}
use Rattle.sequences.specs.Sequences.{keep, numbers}
use Rattle.sequences.specs.Sorting.{sort_by}
use Rattle.sequences.proofs.Each.{Each, each_keep}
use Rattle.sequences.proofs.EachMore.{each_weaken}
use Rattle.sequences.proofs.Keeping.{keep_agree, keep_keep}
use Rattle.sequences.proofs.KeepingSorted.{keep_sort}
use Rattle.sequences.proofs.Numbers.{numbers_below}
use Rattle.tables.specs.declared.Order.TheVariants.{Spo}
use Rattle.tables.specs.Tables.{fields_of}
use Rattle.tables.specs.RowLists.{number_before}
use Rattle.tables.proofs.RowNumbers.{number_ordered}
use Rattle.uploads.specs.Uploads.{upload_count, kept_code, kinds_good, is_kept, is_dropped, kept_numbers, kept_count, entry_of, made_rows, dropped_report}
use Rattle.uploads.proofs.Fates.{kept_good}
use Rattle.upload_fates.specs.Judging.{good_numbers, right_numbers, Judged}
use Rattle.upload_fates.proofs.RightNumbers.{right_below}
use Rattle.upload_writes.specs.Writing.{written_for, is_kept_in, kept_words, dropped_words}

-- lists made by functions that agree
map_agree : (f g : ℕ → List ℕ) (xs : List ℕ) → Each (λ x. f x ≡ g x) xs → map f xs ≡ map g xs
map_agree f g [] e = refl
map_agree f g (x ∷ xs) e = rw (e.0, map_agree f g xs e.1)

module _ (up : List ℕ) where
  kept_sorted : keep (is_kept up) (right_numbers up) ≡ sort_by (number_before Spo up) (kept_numbers up)
  unfolding right_numbers
  kept_sorted =
      keep_sort (number_before Spo up) (number_ordered Spo up) (is_kept up) (good_numbers up (upload_count up))
      ∙ ap (sort_by (number_before Spo up)) (keep_keep (is_kept up) (kinds_good up) (numbers (upload_count up)) (kept_good up))

  below : Each (λ row. ltb row (upload_count up) ≡ true) (numbers (upload_count up))
  below = numbers_below (upload_count up) (upload_count up) (omega arith)

  module _ (fates : List ℕ) (j : Judged up fates) where
    same_kept : (row : ℕ) → ltb row (upload_count up) ≡ true → is_kept_in fates row ≡ is_kept up row
    same_kept row h = ap (λ w. eqb w kept_code) (j.fate row (ltb-true row (upload_count up) h))

    pub made_words_lem : kept_words up fates (right_numbers up) ≡ made_rows up
    unfolding written_for made_rows
    made_words_lem =
        ap (λ ns. flatten (map (fields_of Spo up) ns))
        (keep_agree (is_kept_in fates) (is_kept up) (right_numbers up) (each_weaken same_kept (right_numbers up) (right_below up)) ∙ kept_sorted)

    pub kept_counted : length (keep (is_kept_in fates) (numbers (upload_count up))) ≡ kept_count up
    kept_counted =
        ap length (keep_agree (is_kept_in fates) (is_kept up) (numbers (upload_count up)) (each_weaken same_kept (numbers (upload_count up)) below))

    pub report_words_lem : dropped_words fates (upload_count up) ≡ dropped_report up
    unfolding written_for dropped_report
    report_words_lem =
        let ns = numbers (upload_count up) in
        ap (λ l. flatten (map (λ row. row ∷ get_or fates row 0 ∷ []) l))
        (keep_agree (λ row. not (is_kept_in fates row)) (is_dropped up) ns (each_weaken (λ row h. ap not (same_kept row h)) ns below))
        ∙ ap flatten
        (map_agree (λ row. row ∷ get_or fates row 0 ∷ []) (entry_of up) (keep (is_dropped up) ns)
        (each_weaken (λ row h. ap (λ w. row ∷ w ∷ []) (j.fate row (ltb-true row (upload_count up) h))) (keep (is_dropped up) ns)
        (each_keep (λ row. ltb row (upload_count up) ≡ true) (is_dropped up) ns below)))
