-- Tables of one year, all of whose orders are right: no subject is greater than the one that the rows have last, no predicate than the one that
-- POS has last, and no object than the one that OSP has last. So what stands last says that all kinds and years are right.
use Prim.Native.Nat.{ℕ, zero, suc, ◌-◌, ◌≤◌, ◌<◌}
use native.Mathlib.Omega.{arith}
use mathlib.Core.Path.{◌≡◌, sym, ◌∙◌, ap}
use mathlib.Core.Bool.{true, ◌&&◌}
use mathlib.Core.List.{List, ◌∷◌}
use lib.Dec.{leb, ltb}
use borrow.Author.Tests.{lt-ltb, le-leb, eq-eqb, ltb-true, leb-true}
use Rattle.sequences.specs.Sequences.{lex_before}
use Rattle.words.specs.Words.{number, variable, most_year, term_kind, term_value}
use Rattle.sequences.proofs.Booleans.{absurd_true, and_left, and_right, and_both}
use Rattle.sequences.proofs.Counting.{all_at_lem, at_all}
use Rattle.sequences.proofs.Orders.{Three, less, same, more, three, lex_same, lex_more}
use Rattle.tables.specs.declared.Order.{Order}
use Rattle.tables.specs.declared.Order.TheVariants.{Spo, Pos, Osp}
use Rattle.tables.specs.Tables.{Tables, column_count, row_count, row_at, field_of, fields_of, fields_at, ascends}
use Rattle.tables.specs.Tables.{field_right, row_right, year_right, kinds_right, years_right}
use Rattle.tables.specs.Tables.{year_column, subject_column, predicate_column, object_column}
use Rattle.tables.proofs.Columns.{fields_length}
use Rattle.tables.proofs.Sorted as sorted
use Rattle.table_walk_keys.specs.Walk.{OneYear}
use Rattle.table_tests.specs.Ends.{row_of_last, ends_fine}
use Rattle.table_tests.proofs.Covering.{each_covered}

-- behind the same word, a list that comes before another does not begin with more
behind_same : (x y a b : ℕ) (us vs : List ℕ) → x ≡ y → lex_before (x ∷ a ∷ us) (y ∷ b ∷ vs) ≡ true → a ≤ b
behind_same x y a b us vs e h = go (three a b)
  where
    go : Three a b → a ≤ b
    go (less k) = omega arith
    go (same k) = omega arith
    go (more k) = absurd_true (sym (lex_same (a ∷ us) (b ∷ vs) e) ∙ h) (lex_more us vs k)

module _ (t : Tables) (one : OneYear t.rows) (named : (o : Order) (place : ℕ) → place < row_count t → row_at o t place < row_count t)
    (up : (o : Order) → ascends o t ≡ true) where
  -- ---- an order's places
  places : (o : Order) → sorted.Sorted column_count (row_count t) (fields_at o t)
  unfolding ascends
  places o =
      record {
        width = λ place h. fields_length o t.rows (row_at o t place);
        up = λ place h. all_at_lem (λ p. lex_before (fields_at o t p) (fields_at o t (suc p))) (row_count t - 1) (up o) place (omega arith);
      }

  climbs : (o : Order) (a b : ℕ) → a < b → b < row_count t → lex_before (fields_at o t a) (fields_at o t b) ≡ true
  climbs o = sorted.ascend column_count (row_count t) (fields_at o t) (places o)

  -- no two places have one row, and so each row has a place
  apart : (o : Order) (a b : ℕ) → a < row_count t → b < row_count t → row_at o t a ≡ row_at o t b → a ≡ b
  apart o a b h k e = sorted.one_fields column_count (row_count t) (fields_at o t) (places o) a b h k (ap (fields_of o t.rows) e)

  all_rows_lem : (o : Order) (P : ℕ → Type 0) → ((place : ℕ) → place < row_count t → P (row_at o t place)) → (row : ℕ) → row < row_count t → P row
  all_rows_lem o = each_covered (row_at o t) (row_count t) (named o) (apart o)

  -- ---- the field behind the year, first to last
  abbrev F : Order → ℕ → ℕ
  F Spo row = field_of t.rows row subject_column
  F Pos row = field_of t.rows row predicate_column
  F Osp row = field_of t.rows row object_column

  before_last : (o : Order) (a b : ℕ) → a < row_count t → b < row_count t → lex_before (fields_of o t.rows a) (fields_of o t.rows b) ≡ true
      → F o a ≤ F o b
  unfolding fields_of
  before_last Spo a b h k e = behind_same _ _ _ _ _ _ (one a b h k) e
  before_last Pos a b h k e = behind_same _ _ _ _ _ _ (one a b h k) e
  before_last Osp a b h k e = behind_same _ _ _ _ _ _ (one a b h k) e

  upto_last : (o : Order) (place : ℕ) → place < row_count t → F o (row_at o t place) ≤ F o (row_of_last o t)
  upto_last o place h = go (three place (row_count t - 1))
    where
      go : Three place (row_count t - 1) → F o (row_at o t place) ≤ F o (row_of_last o t)
      go (less k) = before_last o _ _ (named o place h) (named o (row_count t - 1) (omega arith)) (climbs o place (row_count t - 1) k (omega arith))
      go (same k) = let e : F o (row_at o t place) ≡ F o (row_of_last o t) = ap (λ p. F o (row_at o t p)) k in omega arith
      go (more k) = absurd (omega arith)

  greatest_last : (o : Order) (row : ℕ) → row < row_count t → F o row ≤ F o (row_of_last o t)
  greatest_last o = all_rows_lem o (λ row. F o row ≤ F o (row_of_last o t)) (upto_last o)

  -- ---- the words of a row are right
  pub record WordsRight (row : ℕ) : Type 0 where
    pub year_from : number 1 ≤ field_of t.rows row year_column
    pub year_upto : field_of t.rows row year_column ≤ number most_year
    pub subject : F Spo row < number 0
    pub predicate : F Pos row < number 0
    pub object : F Osp row < variable 0

  module _ (fine : ends_fine t ≡ true) where
    abbrev year : ℕ
    year = field_of t.rows (row_of_last Spo t) year_column

    by_ends : (row : ℕ) → row < row_count t → WordsRight row
    by_ends row h =
        let s = ltb (F Spo (row_of_last Spo t)) (number 0) in
        let p = ltb (F Pos (row_of_last Pos t)) (number 0) in
        let o = ltb (F Osp (row_of_last Osp t)) (variable 0) in
        let f₁ = and_right (leb (number 1) year) (leb year (number most_year) && (s && (p && o))) fine in
        let f₂ = and_right (leb year (number most_year)) (s && (p && o)) f₁ in
        let f₃ = and_right s (p && o) f₂ in
        let from : number 1 ≤ year = leb-true _ _ (and_left (leb (number 1) year) (leb year (number most_year) && (s && (p && o))) fine) in
        let upto : year ≤ number most_year = leb-true _ _ (and_left (leb year (number most_year)) (s && (p && o)) f₁) in
        let ls : F Spo (row_of_last Spo t) < number 0 = ltb-true _ _ (and_left s (p && o) f₂) in
        let lp : F Pos (row_of_last Pos t) < number 0 = ltb-true _ _ (and_left p o f₃) in
        let lo : F Osp (row_of_last Osp t) < variable 0 = ltb-true _ _ (and_right p o f₃) in
        let y : field_of t.rows row year_column ≡ year = one row (row_of_last Spo t) h (named Spo (row_count t - 1) (omega arith)) in
        let gs = greatest_last Spo row h in
        let gp = greatest_last Pos row h in
        let go = greatest_last Osp row h in
        record { year_from = omega arith; year_upto = omega arith; subject = omega arith; predicate = omega arith; object = omega arith }

    field_right_lem : (row : ℕ) → WordsRight row → (column : ℕ) → column < column_count → field_right column (field_of t.rows row column) ≡ true
    field_right_lem row w zero h = let a = w.year_from in let b = w.year_upto in eq-eqb (term_kind (field_of t.rows row year_column)) 1 (omega arith)
    field_right_lem row w (suc zero) h = let a = w.subject in eq-eqb (term_kind (F Spo row)) 0 (omega arith)
    field_right_lem row w (suc (suc zero)) h = let a = w.predicate in eq-eqb (term_kind (F Pos row)) 0 (omega arith)
    field_right_lem row w (suc (suc (suc zero))) h = let a = w.object in lt-ltb (term_kind (F Osp row)) 3 (omega arith)
    field_right_lem row w (suc (suc (suc (suc n)))) h = absurd (omega arith)

    year_fine : (row : ℕ) → WordsRight row → year_right (field_of t.rows row year_column) ≡ true
    year_fine row w =
        let a = w.year_from in
        let b = w.year_upto in
        let y = term_value (field_of t.rows row year_column) in
        and_both (leb 1 y) (leb y most_year) (le-leb 1 y (omega arith)) (le-leb y most_year (omega arith))

    pub ends_say : (kinds_right t ≡ true) × (years_right t ≡ true)
    unfolding kinds_right row_right years_right
    ends_say = (
      at_all _ (row_count t) (λ row l. at_all _ column_count (λ column k. field_right_lem row (by_ends row l) column k)),
      at_all _ (row_count t) (λ row l. year_fine row (by_ends row l)),
    )
