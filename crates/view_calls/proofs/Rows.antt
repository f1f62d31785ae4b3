-- Rows put behind each other, each over the next words of a buffer, where a hidden one does not count.
use Prim.Native.Nat.{ℕ, zero, suc, ◌+◌, ◌-◌, ◌*◌, ◌/◌, ◌≤◌, ◌<◌}
use native.Mathlib.Omega.{arith}
use native.Mathlib.Numerals.{add-one}
use mathlib.Core.Path.{◌≡◌, sym, ◌∙◌, ap}
use mathlib.Core.Bool.{Bool, true, false, cond}
use mathlib.Core.List.{List, [], ◌∷◌, ◌++◌, map}
use lib.ListN.{length, take, drop, length-map}
use lib.Seq.{take-take, take_at, drop-drop, take-append-le, take-length, length-take-le, paste, take-paste, drop-paste}
use Rattle.sequences.specs.Sequences.{keep, numbers}
use Rattle.sequences.proofs.Booleans.{Decided, yes, no, decided}
use Rattle.sequences.proofs.Each.{each_map}
use Rattle.sequences.proofs.Flattening.{length_flatten}
use Rattle.sequences.proofs.Numbers.{numbers_none, numbers_next, numbers_length}
use Rattle.sequences.proofs.Orders.{Three, less, same, more, three}
use Rattle.tables.specs.declared.Order.TheVariants.{Spo}
use Rattle.tables.specs.Tables.{column_count, fields_of}
use Rattle.tables.proofs.Columns.{fields_length}
use Rattle.views.specs.Renumbered.{passed_before}
use Rattle.upload_writes.specs.Writing.{written_for}
use Rattle.upload_writes.proofs.Written.{written_yes, written_no}
use Rattle.view_calls.specs.Writing.{shown_by, shown_words}
use Rattle.view_calls.proofs.Putting.{part_all}

-- the first numbers of some
first_numbers : (m n : ℕ) → m ≤ n → take m (numbers n) ≡ numbers m
first_numbers m zero h = let e : m ≡ 0 = omega arith in rw e numbers_none
first_numbers m (suc n) h = ap (take m) (sym (numbers_next n)) ∙ go (three m (suc n)) (first_numbers m n)
  where
    go : Three m (suc n) → (m ≤ n → take m (numbers n) ≡ numbers m) → take m (numbers n ++ (n ∷ [])) ≡ numbers m
    go (less k) ih = take-append-le m (numbers n) (n ∷ []) (omega (arith, numbers_length n)) ∙ ih (omega arith)
    go (same k) ih =
        ap (take m) (numbers_next n) ∙ ap (λ x. take x (numbers (suc n))) (k ∙ sym (numbers_length (suc n)))
        ∙ take-length (numbers (suc n)) ∙ ap numbers (sym k)
    go (more k) ih = absurd (omega arith)

-- ---- some words put over a buffer
module _ (view x : List ℕ) (at : ℕ) (fits : at + length x ≤ length view) where
  put_front : take (at + length x) (paste view at x (length x)) ≡ take at view ++ x
  put_front = take-paste view at x (length x) (omega arith) (omega arith) ∙ ap (λ l. take at view ++ l) (take-length x)

  put_before : take at (paste view at x (length x)) ≡ take at view
  put_before =
      sym (take-take at (at + length x) (paste view at x (length x)) (omega arith))
      ∙ ap (take at) put_front
      ∙ take_at (take at view) x at (length-take-le at view (omega arith))

  pub put_rest : (end : ℕ) → at + length x ≤ end → drop end (paste view at x (length x)) ≡ drop end view
  put_rest end h =
      let j = end - (at + length x) in
      let e : end ≡ at + length x + j = omega arith in
      ap (λ k. drop k (paste view at x (length x))) e
      ∙ sym (drop-drop j (at + length x) (paste view at x (length x)))
      ∙ ap (drop j) (drop-paste view at x (length x) (omega arith) (omega arith))
      ∙ drop-drop j (at + length x) view
      ∙ ap (λ k. drop k view) (sym e)

-- ---- the words of the first rows
module _ (rows marks : List ℕ) where
  abbrev pub words_upto : ℕ → List ℕ
  words_upto n = written_for (shown_by marks) (fields_of Spo rows) (numbers n)

  pub words_length : (n : ℕ) → length (written_for (shown_by marks) (fields_of Spo rows) (numbers n)) ≡ passed_before (shown_by marks) n * column_count
  unfolding written_for
  words_length n =
      let ns = keep (shown_by marks) (numbers n) in
      length_flatten column_count (map (fields_of Spo rows) ns)
      (each_map (λ (x : List ℕ). length x ≡ column_count) (fields_of Spo rows) (fields_length Spo rows) ns)
      ∙ ap (λ k. k * column_count) (length-map ns (fields_of Spo rows))

  pub words_all : (n : ℕ) → n ≤ length rows / column_count
      → passed_before (shown_by marks) n ≡ passed_before (shown_by marks) (length rows / column_count)
      → written_for (shown_by marks) (fields_of Spo rows) (numbers n) ≡ shown_words rows marks
  words_all n h e =
      let f = first_numbers n (length rows / column_count) h in
      let g = ap (written_for (shown_by marks) (fields_of Spo rows)) f in
      sym g
      ∙ part_all (shown_by marks) (fields_of Spo rows) n (numbers (length rows / column_count))
      (ap length g ∙ words_length n ∙ ap (λ k. k * column_count) e ∙ sym (words_length (length rows / column_count)))

  -- one row more
  next_row : (n : ℕ) → numbers (n + 1) ≡ numbers n ++ (n ∷ [])
  next_row n = ap numbers (add-one n) ∙ sym (numbers_next n)

  pub front_row : (view x : List ℕ) (used n : ℕ) → x ≡ fields_of Spo rows n → used * column_count + column_count ≤ length view
      → take (used * column_count) view ≡ written_for (shown_by marks) (fields_of Spo rows) (numbers n)
      → take (cond (shown_by marks n) (used + 1) used * column_count) (paste view (used * column_count) x (length x))
      ≡ written_for (shown_by marks) (fields_of Spo rows) (numbers (n + 1))
  front_row view x used n e h t = go (decided (shown_by marks n))
    where
      wide : length x ≡ column_count
      wide = ap length e ∙ fields_length Spo rows n

      fits : used * column_count + length x ≤ length view
      fits = omega (arith, wide)

      go : Decided (shown_by marks n)
          → take (cond (shown_by marks n) (used + 1) used * column_count) (paste view (used * column_count) x (length x)) ≡ words_upto (n + 1)
      go (yes p) =
          let z : (used + 1) * column_count ≡ used * column_count + length x = omega (arith, wide) in
          rw p
          (ap (λ k. take k (paste view (used * column_count) x (length x))) z
          ∙ put_front view x (used * column_count) fits
          ∙ ap (λ l. l ++ x) t
          ∙ ap (λ l. words_upto n ++ l) e
          ∙ sym (ap (written_for (shown_by marks) (fields_of Spo rows)) (next_row n) ∙ written_yes (shown_by marks) (fields_of Spo rows) (numbers n) n p))
      go (no p) =
          rw p
          (put_before view x (used * column_count) fits
          ∙ t
          ∙ sym (ap (written_for (shown_by marks) (fields_of Spo rows)) (next_row n) ∙ written_no (shown_by marks) (fields_of Spo rows) (numbers n) n p))

-- one more is no more than there are, where there is one left
pub more_most : (b : Bool) (used seen : ℕ) → used < seen → cond b (used + 1) used ≤ seen
more_most true used seen h = omega arith
more_most false used seen h = omega arith
