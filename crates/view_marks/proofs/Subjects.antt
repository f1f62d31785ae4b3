-- In a year the rows of one subject stand side by side: so what flags tell of it from its first row on, up to another's, is all that they tell.
use Prim.Native.Nat.{ℕ, ◌+◌, ◌-◌, ◌/◌, ◌≤◌, ◌<◌}
use native.Mathlib.Omega.{arith}
use native.Mathlib.Numerals.{add-one}
use mathlib.Core.Path.{◌≡◌, refl, sym, ◌∙◌, ap, ap₂, subst}
use mathlib.Core.Bool.{Bool, true, false, not, ◌&&◌, ◌||◌}
use mathlib.Core.List.{List, [], ◌∷◌}
use lib.Dec.{eqb}
use lib.ListN.{length, get_or}
use Rattle.sequences.specs.Sequences.{all_below, some_below, lex_before, member}
use Rattle.sequences.proofs.Booleans.{absurd_true, Decided, yes, no, decided}
use Rattle.sequences.proofs.Counting.{at_all}
use Rattle.sequences.proofs.Elements.{same_test}
use Rattle.sequences.proofs.Orders.{Three, less, same, more, three, lex_same, lex_more}
use Rattle.sequences.proofs.Somewhere.{Some, some_at, at_some}
use Rattle.tables.specs.declared.Order.TheVariants.{Spo}
use Rattle.tables.specs.Tables.{column_count, year_column, subject_column, predicate_column, object_column, field_of, fields_of}
use Rattle.tables.specs.RowLists.{RowsRight}
use Rattle.tables.proofs.Columns.{fields_length}
use Rattle.tables.proofs.Sorted as sorted
use Rattle.views.specs.Views.{is_of}
use Rattle.views.proofs.Visible.{of_year_lem, of_subject, both_of}
use Rattle.view_marks.specs.Told.{told, some_told, seen_by, FirstOfSubject}

-- ---- some number below n
not_both : (a b : Bool) → not (a && not b) ≡ (not a || b)
not_both true true = refl
not_both true false = refl
not_both false b = refl

some_next : (f : ℕ → Bool) (n : ℕ) → some_below f (n + 1) ≡ (some_below f n || f n)
unfolding all_below
some_next f n = rw (add-one n) (not_both (all_below (λ i. not (f i)) n) (f n))

some_none : (f : ℕ → Bool) (n : ℕ) → ((i : ℕ) → i < n → f i ≡ false) → some_below f n ≡ false
some_none f n h = rw (at_all (λ i. not (f i)) n (λ i l. rw (h i l)))

some_same : (f : ℕ → Bool) (n m : ℕ) → n ≤ m → ((i : ℕ) → n ≤ i → i < m → f i ≡ false) → some_below f m ≡ some_below f n
some_same f n m h d =
    same_test (some_below f m) (some_below f n)
    (λ e. let s = some_at f m e in go s (three s.which n))
    (λ e. let s = some_at f n e in let l = s.below in at_some f m s.which (omega arith) s.passes)
  where
    go : (s : Some f m) → Three s.which n → some_below f n ≡ true
    go s (less k) = at_some f n s.which k s.passes
    go s (same k) = absurd_true s.passes (d s.which (omega arith) s.below)
    go s (more k) = absurd_true s.passes (d s.which (omega arith) s.below)

-- ---- what flags tell
module _ (rows flags : List ℕ) where
  told_other : (year s i : ℕ) → is_of rows year s i ≡ false → told rows flags year s i ≡ false
  unfolding told
  told_other year s i n = rw n

  told_own : (year s i : ℕ) → is_of rows year s i ≡ true → told rows flags year s i ≡ eqb (get_or flags i 0) 1
  unfolding told
  told_own year s i e = rw e

  or_assoc : (a b c : Bool) → (a || b) || c ≡ (a || (b || c))
  or_assoc true b c = refl
  or_assoc false b c = refl

  or_none : (a : Bool) → a ≡ (a || false)
  or_none true = refl
  or_none false = refl

  -- one row more of a subject
  pub some_told_lem : (granted : Bool) (year s n : ℕ) → is_of rows year s n ≡ true
      → ((granted || some_below (told rows flags year s) n) || eqb (get_or flags n 0) 1) ≡ (granted || some_below (told rows flags year s) (n + 1))
  some_told_lem granted year s n e =
      or_assoc granted (some_below (told rows flags year s) n) (eqb (get_or flags n 0) 1)
      ∙ ap (λ b. granted || (some_below (told rows flags year s) n || b)) (sym (told_own year s n e))
      ∙ ap (λ b. granted || b) (sym (some_next (told rows flags year s) n))

  -- before the first
  pub told_before : (granted : Bool) (row : ℕ) → FirstOfSubject rows row
      → granted ≡ (granted || some_below (told rows flags (field_of rows row year_column) (field_of rows row subject_column)) row)
  told_before granted row f =
      or_none granted
      ∙ ap (λ b. granted || b)
      (sym (some_none (told rows flags (field_of rows row year_column) (field_of rows row subject_column)) row
      (λ j k. told_other (field_of rows row year_column) (field_of rows row subject_column) j (f.before j k))))

  -- by the year and the subject alone
  pub seen_alike : (grant : List ℕ) (j i : ℕ) → field_of rows j year_column ≡ field_of rows i year_column
      → field_of rows j subject_column ≡ field_of rows i subject_column → seen_by rows grant flags j ≡ seen_by rows grant flags i
  unfolding seen_by
  seen_alike grant j i y e = ap₂ (λ year s. member s grant || some_told rows flags year s) y e

  pub seen_is : (grant : List ℕ) (row : ℕ) (granted : Bool) → granted ≡ member (field_of rows row subject_column) grant
      → (granted || some_told rows flags (field_of rows row year_column) (field_of rows row subject_column)) ≡ seen_by rows grant flags row
  unfolding seen_by
  seen_is grant row granted e = rw e

module _ (rows : List ℕ) (r : RowsRight rows) where
  abbrev year : ℕ → ℕ
  year i = field_of rows i year_column

  abbrev subject : ℕ → ℕ
  subject i = field_of rows i subject_column

  abbrev others : ℕ → List ℕ
  others i = field_of rows i predicate_column ∷ field_of rows i object_column ∷ []

  up : (j i : ℕ) → j < i → i < length rows / column_count
      → lex_before (year j ∷ subject j ∷ others j) (year i ∷ subject i ∷ others i) ≡ true
  unfolding fields_of
  up =
      sorted.ascend column_count (length rows / column_count) (fields_of Spo rows)
      (record { width = λ row k. fields_length Spo rows row; up = r.up })

  -- from a row to a later one years do not fall, nor do the subjects of one year
  years_rise : (j i : ℕ) → j ≤ i → i < length rows / column_count → year j ≤ year i
  years_rise j i h l = go (three j i) (three (year j) (year i))
    where
      go : Three j i → Three (year j) (year i) → year j ≤ year i
      go k (less m) = omega arith
      go k (same m) = omega arith
      go (less k) (more m) = absurd_true (up j i k l) (lex_more (subject j ∷ others j) (subject i ∷ others i) m)
      go (same k) (more m) = subst (λ n. year j ≤ year n) k (omega arith)
      go (more k) (more m) = absurd (omega arith)

  pub subjects_rise : (j i : ℕ) → j ≤ i → i < length rows / column_count → field_of rows j year_column ≡ field_of rows i year_column
      → field_of rows j subject_column ≤ field_of rows i subject_column
  subjects_rise j i h l y = go (three j i) (three (subject j) (subject i))
    where
      go : Three j i → Three (subject j) (subject i) → subject j ≤ subject i
      go k (less m) = omega arith
      go k (same m) = omega arith
      go (less k) (more m) =
          absurd_true (sym (lex_same (subject j ∷ others j) (subject i ∷ others i) y) ∙ up j i k l) (lex_more (others j) (others i) m)
      go (same k) (more m) = subst (λ n. subject j ≤ subject n) k (omega arith)
      go (more k) (more m) = absurd (omega arith)

  -- so a row between two of one subject in one year is of it too
  between : (j n i : ℕ) → j ≤ n → n ≤ i → i < length rows / column_count → year j ≡ year i → subject j ≡ subject i
      → (year n ≡ year j) × (subject n ≡ subject j)
  between j n i h k l y s =
      let a = years_rise j n h (omega arith) in
      let b = years_rise n i k l in
      let e : year n ≡ year j = omega arith in
      let c = subjects_rise j n h (omega arith) (sym e) in
      let d = subjects_rise n i k l (e ∙ y) in
      (e, omega arith)

  -- where the row before is of another, a row is the first of its own
  pub first_next : (row : ℕ) → row < length rows / column_count
      → (0 < row → is_of rows (field_of rows row year_column) (field_of rows row subject_column) (row - 1) ≡ false) → FirstOfSubject rows row
  first_next row l n = record { there = l; before = λ j k. go j k (decided (is_of rows (year row) (subject row) j)) }
    where
      go : (j : ℕ) → j < row → Decided (is_of rows (year row) (subject row) j) → is_of rows (year row) (subject row) j ≡ false
      go j k (yes p) =
          let y = of_year_lem rows (year row) (subject row) j p in
          let s = of_subject rows (year row) (subject row) j p in
          let b = between j (row - 1) row (omega arith) (omega arith) l y s in
          absurd_true (both_of rows (year row) (subject row) (row - 1) (b.0 ∙ y) (b.1 ∙ s)) (n (omega arith))
      go j k (no p) = p

  -- another's row: no later one is of this subject in this year
  module _ (flags : List ℕ) where
    pub told_after : (row n : ℕ) → row ≤ n → n < length rows / column_count
        → is_of rows (field_of rows row year_column) (field_of rows row subject_column) n ≡ false
        → some_told rows flags (field_of rows row year_column) (field_of rows row subject_column)
        ≡ some_below (told rows flags (field_of rows row year_column) (field_of rows row subject_column)) n
    told_after row n h l d =
        some_same (told rows flags (year row) (subject row)) n (length rows / column_count) (omega arith)
        (λ i k m. told_other rows flags (year row) (subject row) i (each i k m (decided (is_of rows (year row) (subject row) i))))
      where
        each : (i : ℕ) → n ≤ i → i < length rows / column_count → Decided (is_of rows (year row) (subject row) i)
            → is_of rows (year row) (subject row) i ≡ false
        each i k m (yes p) =
            let y = of_year_lem rows (year row) (subject row) i p in
            let s = of_subject rows (year row) (subject row) i p in
            let b = between row n i h k m (sym y) (sym s) in
            absurd_true (both_of rows (year row) (subject row) n b.0 b.1) d
        each i k m (no p) = p
