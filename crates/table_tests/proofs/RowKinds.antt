-- Laws of tests 2 and 23 for a pass over the rows.
use Rattle.std.proofs.Common.{◌≡◌, ℕ, ◌+◌, ◌*◌, Bool, true, cond, List, [], ◌&&◌, length, refl, ap₂, ◌/◌, add-one}
use Rattle.sequences.specs.Sequences.{all_below}
use Rattle.tables.specs.Tables.{tables_of, column_count, year_column, field_of, row_right, year_right, kinds_right, years_right}
use Rattle.table_tests.specs.Refusals.{rows_refusal}

-- the first `n` rows pass
unfoldable pub kinds_upto : List ℕ → ℕ → Bool
kinds_upto rows n = all_below (λ row. row_right rows (row * column_count)) n

unfoldable pub years_upto : List ℕ → ℕ → Bool
years_upto rows n = all_below (λ row. year_right (field_of rows row year_column)) n

module _ (rows : List ℕ) where
  -- these tests ask nothing of the lists
  pub rows_alone : (pos osp : List ℕ) → rows_refusal (tables_of rows [] []) ≡ rows_refusal (tables_of rows pos osp)
  unfolding kinds_right years_right
  rows_alone pos osp = refl

  pub kinds_none : true ≡ kinds_upto rows 0
  unfolding kinds_upto all_below
  kinds_none = refl

  pub years_none : true ≡ years_upto rows 0
  unfolding years_upto all_below
  years_none = refl

  pub kinds_next : (n : ℕ) (a b : Bool) → a ≡ kinds_upto rows n → b ≡ row_right rows (n * column_count) → (a && b) ≡ kinds_upto rows (n + 1)
  unfolding kinds_upto all_below
  kinds_next n a b p q = rw (add-one n) (ap₂ ◌&&◌ p q)

  pub years_next : (n : ℕ) (a b : Bool) → a ≡ years_upto rows n → b ≡ year_right (field_of rows n year_column)
      → (a && b) ≡ years_upto rows (n + 1)
  unfolding years_upto all_below
  years_next n a b p q = rw (add-one n) (ap₂ ◌&&◌ p q)

  -- at the end: what the two tests make
  pub rows_all : (n : ℕ) → n ≡ length rows / column_count → (kinds years : Bool) → kinds ≡ kinds_upto rows n → years ≡ years_upto rows n
      → rows_refusal (tables_of rows [] []) ≡ cond kinds (cond years 0 23) 2
  unfolding kinds_upto years_upto kinds_right years_right
  rows_all n h kinds years k y = rw (k, y, h)
