-- Years: a row begins with the number of its year, years do not fall in any order, and the rows of a year are those of its range.
use Prim.Native.Nat.{ℕ, ◌≤◌, ◌<◌}
use native.Mathlib.Omega.{arith}
use mathlib.Core.Path.{◌≡◌, refl, sym, ◌∙◌, ap, subst}
use mathlib.Core.Bool.{true}
use mathlib.Core.List.{List, [], ◌∷◌}
use lib.Dec.{leb}
use lib.ListN.{drop}
use borrow.Author.Tests.{lt-ltb, ltb-true, leb-true, eqb-true}
use Rattle.std.specs.declared.cmp.Ordering.TheVariants.{Less, Equal, Greater}
use Rattle.words.specs.Words.{term_kind, number_kind, number, most_year}
use Rattle.sequences.specs.Sequences.{lex_before}
use Rattle.sequences.proofs.Booleans.{absurd_true, and_right}
use Rattle.sequences.proofs.Orders.{Three, less, same, more, three, lex_less, lex_same, lex_more}
use Rattle.tables.specs.declared.Order.{Order}
use Rattle.tables.specs.declared.Order.TheVariants.{Spo, Pos, Osp}
use Rattle.tables.specs.Tables.{Tables, row_count, year_column, field_of, row_at, fields_of, fields_at}
use Rattle.tables.specs.Right.{Right}
use Rattle.tables.specs.Ranges.{range_start, range_end}
use Rattle.tables.specs.Sides.{side_of}
use Rattle.tables.specs.Years.{year_at, year_prefix, year_start, year_end, has_rows}
use Rattle.tables.proofs.Ascending.{ascend}
use Rattle.tables.proofs.Ranges.{start_le_end, end_le_count, side_lies}

-- each order has the year first
pub year_first : (o : Order) (rows : List ℕ) (row : ℕ) → fields_of o rows row ≡ field_of rows row year_column ∷ drop 1 (fields_of o rows row)
unfolding fields_of
year_first Spo rows row = refl
year_first Pos rows row = refl
year_first Osp rows row = refl

-- some fields, on the side of their first against one word
module _ (a word : ℕ) (rest : List ℕ) where
  one_before : a < word → side_of (a ∷ rest) (word ∷ []) ≡ Less
  unfolding side_of
  one_before h = rw (lex_less rest [] h)

  one_within : a ≡ word → side_of (a ∷ rest) (word ∷ []) ≡ Equal
  unfolding side_of lex_before
  one_within h = rw (lex_same rest [] h, lex_same [] rest (sym h)) (go rest)
    where
      go : (xs : List ℕ) → side_of xs [] ≡ Equal
      go [] = refl
      go (x ∷ xs) = refl

  one_after : word < a → side_of (a ∷ rest) (word ∷ []) ≡ Greater
  unfolding side_of
  one_after h = rw (lex_more rest [] h, lex_less [] rest h)

module _ (t : Tables) (w : Right t) where
  -- ---- the word that a row begins with
  module _ (row : ℕ) (h : row < row_count t) where
    pub year_word_lem : field_of t.rows row year_column ≡ number (year_at t row)
    year_word_lem =
        let k = eqb-true (term_kind (field_of t.rows row year_column)) number_kind (w.kinds row year_column h (omega arith)) in
        omega arith

    pub year_most : year_at t row ≤ most_year
    year_most = leb-true _ _ (and_right (leb 1 (year_at t row)) (leb (year_at t row) most_year) (w.years row h))

  -- ---- in any order
  module _ (o : Order) where
    abbrev at : ℕ → ℕ
    at q = field_of t.rows (row_at o t q) year_column

    -- years do not fall
    pub years_rise : (j i : ℕ) → j < i → i < row_count t
        → field_of t.rows (row_at o t j) year_column ≤ field_of t.rows (row_at o t i) year_column
    years_rise j i h l = go (three (at j) (at i))
      where
        up : lex_before (at j ∷ drop 1 (fields_at o t j)) (at i ∷ drop 1 (fields_at o t i)) ≡ true
        up = rw (← year_first o t.rows (row_at o t j), ← year_first o t.rows (row_at o t i)) (ascend t w o j i h l)

        go : Three (at j) (at i) → at j ≤ at i
        go (less k) = omega arith
        go (same k) = omega arith
        go (more k) = absurd_true up (lex_more (drop 1 (fields_at o t j)) (drop 1 (fields_at o t i)) k)

    -- a place against the range of a word
    module _ (word q : ℕ) (l : q < row_count t) where
      pub year_less : field_of t.rows (row_at o t q) year_column < word → q < range_start t (year_prefix o word)
      year_less h =
          side_lies t w (year_prefix o word) q l Less (rw (year_first o t.rows (row_at o t q)) (one_before (at q) word (drop 1 (fields_at o t q)) h))

      pub year_same : field_of t.rows (row_at o t q) year_column ≡ word
          → (range_start t (year_prefix o word) ≤ q) × (q < range_end t (year_prefix o word))
      year_same h =
          side_lies t w (year_prefix o word) q l Equal (rw (year_first o t.rows (row_at o t q)) (one_within (at q) word (drop 1 (fields_at o t q)) h))

      pub year_more : word < field_of t.rows (row_at o t q) year_column → range_end t (year_prefix o word) ≤ q
      year_more h =
          side_lies t w (year_prefix o word) q l Greater (rw (year_first o t.rows (row_at o t q)) (one_after (at q) word (drop 1 (fields_at o t q)) h))

      pub in_year_lem : range_start t (year_prefix o word) ≤ q → q < range_end t (year_prefix o word)
          → field_of t.rows (row_at o t q) year_column ≡ word
      in_year_lem h k = go (three (at q) word)
        where
          go : Three (at q) word → at q ≡ word
          go (less m) = absurd (let a = year_less m in omega arith)
          go (same m) = m
          go (more m) = absurd (let a = year_more m in omega arith)

      pub past_end_fact : range_end t (year_prefix o word) ≤ q → word < field_of t.rows (row_at o t q) year_column
      past_end_fact h = go (three (at q) word)
        where
          go : Three (at q) word → word < at q
          go (less k) = absurd (let a = year_less k in let b = start_le_end t (year_prefix o word) in omega arith)
          go (same k) = absurd (let a = year_same k in omega arith)
          go (more k) = k

  -- ---- in the rows' own order, by number
  pub years_climb : (j i : ℕ) → j ≤ i → i < row_count t → year_at t j ≤ year_at t i
  years_climb j i h l = go (three j i)
    where
      go : Three j i → year_at t j ≤ year_at t i
      go (less k) = omega (arith, years_rise Spo j i k l, year_word_lem j (omega arith), year_word_lem i l)
      go (same k) = subst (λ n. year_at t j ≤ year_at t n) k (omega arith)
      go (more k) = absurd (omega arith)

  module _ (year row : ℕ) (l : row < row_count t) where
    -- the rows before a year's end are of it or of earlier ones, those from there on of later ones
    pub year_upto : row < year_end t year → year_at t row ≤ year
    year_upto h = go (three (field_of t.rows row year_column) (number year))
      where
        go : Three (field_of t.rows row year_column) (number year) → year_at t row ≤ year
        go (less k) = omega (arith, year_word_lem row l)
        go (same k) = omega (arith, year_word_lem row l)
        go (more k) = absurd (let a = year_more Spo (number year) row l k in omega arith)

    pub year_behind_lem : year_end t year ≤ row → year < year_at t row
    year_behind_lem h = omega (arith, past_end_fact Spo (number year) row l h, year_word_lem row l)

    -- a year has rows exactly if it is that of a row
    pub row_has : year_at t row ≡ year → has_rows t year ≡ true
    row_has e =
        let a = year_same Spo (number year) row l (year_word_lem row l ∙ ap number e) in
        lt-ltb (year_start t year) (year_end t year) (omega arith)

  pub has_row : (year : ℕ) → has_rows t year ≡ true → (year_start t year < row_count t) × (year_at t (year_start t year) ≡ year)
  has_row year e =
      let h = ltb-true (year_start t year) (year_end t year) e in
      let k = end_le_count t (year_prefix Spo (number year)) in
      let l : year_start t year < row_count t = omega arith in
      let i = in_year_lem Spo (number year) (year_start t year) l (omega arith) h in
      (l, omega (arith, i, year_word_lem (year_start t year) l))
