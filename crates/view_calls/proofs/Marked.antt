-- What marked rows make is the view.
use Prim.Native.Nat.{ℕ, zero, suc, ◌/◌, ◌≤◌, ◌<◌}
use native.Mathlib.Omega.{arith}
use mathlib.Core.Path.{◌≡◌, refl, sym, ◌∙◌, ap}
use mathlib.Core.Bool.{true}
use mathlib.Core.List.{List, [], ◌∷◌, ◌++◌, map, flatten}
use lib.Dec.{ltb}
use lib.ListN.{length, get_or, drop, get_or-append}
use lib.Seq.{get_or_at}
use borrow.Author.Tests.{lt-ltb, ltb-true}
use Rattle.sequences.specs.Sequences.{keep, numbers, over, all}
use Rattle.sequences.proofs.Booleans.{Decided, yes, no, decided}
use Rattle.sequences.proofs.Each.{each_keep, each_kept, all_each}
use Rattle.sequences.proofs.EachMore.{each_weaken, each_both}
use Rattle.sequences.proofs.Keeping.{keep_agree}
use Rattle.sequences.proofs.Numbers.{numbers_below, numbers_length, numbers_next}
use Rattle.sequences.proofs.Orders.{Three, less, same, more, three}
use Rattle.sequences.proofs.Somewhere.{map_at}
use Rattle.tables.specs.declared.Order.TheVariants.{Spo}
use Rattle.tables.specs.Tables.{column_count, most_rows, fields_of}
use Rattle.views.specs.Views.{visible, visible_numbers, view_count, view_rows}
use Rattle.views.specs.Renumbered.{passed_before, new_number}
use Rattle.upload_writes.specs.Writing.{written_for}
use Rattle.view_marks.specs.Marks.{hidden_mark, mark_of, marks_of}
use Rattle.view_marks.proofs.Marking.{marks_length, number_most}
use Rattle.view_marks.proofs.Visible.{map_agree}
use Rattle.view_calls.specs.Writing.{shown_by, shown_words, shown_numbers}

-- a number below n stands at its own place
number_at : (n i : ℕ) → i < n → get_or (numbers n) i 0 ≡ i
number_at zero i h = absurd (omega arith)
number_at (suc n) i h = ap (λ l. get_or l i 0) (sym (numbers_next n)) ∙ go (three i n) (number_at n i)
  where
    go : Three i n → (i < n → get_or (numbers n) i 0 ≡ i) → get_or (numbers n ++ (n ∷ [])) i 0 ≡ i
    go (less k) ih = get_or-append (numbers n) (n ∷ []) 0 i (omega (arith, numbers_length n)) ∙ ih k
    go (same k) ih = get_or_at (numbers n) n [] 0 i (numbers_length n ∙ sym k) ∙ sym k
    go (more k) ih = absurd (omega arith)

-- a list of single words
singles : (g : ℕ → ℕ) (xs : List ℕ) → flatten (map (λ x. g x ∷ []) xs) ≡ map g xs
unfolding flatten
singles g [] = refl
singles g (x ∷ xs) = ap (λ l. g x ∷ l) (singles g xs)

module _ (rows grant : List ℕ) (membership : ℕ) (few : length rows / column_count ≤ most_rows) (before marks : List ℕ)
    (marked : marks ≡ over (marks_of (visible rows grant membership) (length rows / column_count)) before) where
  abbrev count : ℕ
  count = length rows / column_count

  mark_at : (row : ℕ) → row < count → get_or marks row 0 ≡ mark_of (visible rows grant membership) row
  unfolding marks_of
  mark_at row h =
      ap (λ l. get_or l row 0) marked
      ∙ get_or-append (map (mark_of (visible rows grant membership)) (numbers count))
      (drop (length (map (mark_of (visible rows grant membership)) (numbers count))) before) 0 row
      (omega (arith, marks_length (visible rows grant membership) count))
      ∙ map_at (mark_of (visible rows grant membership)) (numbers count) 0 0 row (omega (arith, numbers_length count))
      ∙ ap (mark_of (visible rows grant membership)) (number_at count row h)

  shown_is : (row : ℕ) → ltb row count ≡ true → shown_by marks row ≡ visible rows grant membership row
  shown_is row l = go (decided (visible rows grant membership row))
    where
      h : row < count
      h = ltb-true row count l

      go : Decided (visible rows grant membership row) → shown_by marks row ≡ visible rows grant membership row
      go (yes e) =
          let m : get_or marks row 0 ≡ new_number rows grant membership row = mark_at row h ∙ rw e in
          ap (λ w. ltb w hidden_mark) m
          ∙ lt-ltb (new_number rows grant membership row) hidden_mark (let k = h in omega (arith, number_most (visible rows grant membership) row))
          ∙ sym e
      go (no e) = let m : get_or marks row 0 ≡ hidden_mark = mark_at row h ∙ rw e in ap (λ w. ltb w hidden_mark) m ∙ sym e

  number_of_lem : (row : ℕ) → ltb row count ≡ true → visible rows grant membership row ≡ true → get_or marks row 0 ≡ new_number rows grant membership row
  number_of_lem row l e = mark_at row (ltb-true row count l) ∙ rw e

  same_shown : keep (shown_by marks) (numbers (length rows / column_count)) ≡ visible_numbers rows grant membership
  same_shown =
      keep_agree (shown_by marks) (visible rows grant membership) (numbers count)
      (each_weaken shown_is (numbers count) (numbers_below count count (omega arith)))

  pub count_shown : passed_before (shown_by marks) (length rows / column_count) ≡ view_count rows grant membership
  count_shown = ap length same_shown

  pub rows_shown : shown_words rows marks ≡ view_rows rows grant membership
  unfolding written_for view_rows
  rows_shown = ap (λ ns. flatten (map (fields_of Spo rows) ns)) same_shown

  pub numbers_shown : (list : List ℕ) → all (λ row. ltb row (length rows / column_count)) list ≡ true
      → shown_numbers marks list ≡ map (new_number rows grant membership) (keep (visible rows grant membership) list)
  unfolding written_for
  numbers_shown list a =
      let f = visible rows grant membership in
      let e = all_each (λ row. ltb row count) list a in
      singles (λ row. get_or marks row 0) (keep (shown_by marks) list)
      ∙ ap (map (λ row. get_or marks row 0)) (keep_agree (shown_by marks) f list (each_weaken shown_is list e))
      ∙ map_agree (λ row. get_or marks row 0) (new_number rows grant membership) (keep f list)
      (each_both number_of_lem (keep f list)
      (each_keep (λ row. ltb row count ≡ true) f list e) (each_kept f list))
