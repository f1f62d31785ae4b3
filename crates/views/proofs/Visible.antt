-- Which rows are visible: by a granted subject, or by a row of their year that admits their subject. Rows of one subject in one year are
-- visible alike, and a row of another year admits nothing.
use Prim.Native.Nat.{ℕ, ◌/◌, ◌<◌}
use mathlib.Core.Path.{◌≡◌, refl, sym, ◌∙◌, subst}
use mathlib.Core.Bool.{Bool, true, false, not, ◌||◌}
use mathlib.Core.List.{List}
use lib.Dec.{eqb}
use lib.ListN.{length}
use borrow.Author.Tests.{eq-eqb, ne_eqb, eqb-true, eqb-false}
use Rattle.sequences.specs.Sequences.{member}
use Rattle.sequences.proofs.Booleans.{and_left, and_right, Decided, yes, no, decided}
use Rattle.sequences.proofs.Counting.{at_all}
use Rattle.sequences.proofs.Somewhere.{Some, some_at, at_some}
use Rattle.tables.specs.Tables.{column_count, year_column, subject_column, predicate_column, object_column, field_of}
use Rattle.views.specs.Views.{is_of, admits, belongs, visible}

-- visible by a grant, or by a row that admits its subject in its year
pub data SeenRows (rows grant : List ℕ) (membership row : ℕ) : Type 0 where
  granted : member (field_of rows row subject_column) grant ≡ true → SeenRows rows grant membership row
  admitted : Some (admits rows grant membership (field_of rows row year_column) (field_of rows row subject_column)) (length rows / column_count)
      → SeenRows rows grant membership row

or-true : (a b : Bool) → b ≡ true → a || b ≡ true
or-true true b e = refl
or-true false b e = e

-- ---- a row of a subject in a year
module _ (rows : List ℕ) (year s y : ℕ) where
  pub of_year_lem : is_of rows year s y ≡ true → field_of rows y year_column ≡ year
  of_year_lem e = eqb-true (field_of rows y year_column) year (and_left (eqb (field_of rows y year_column) year) (eqb (field_of rows y subject_column) s) e)

  pub of_subject : is_of rows year s y ≡ true → field_of rows y subject_column ≡ s
  of_subject e = eqb-true (field_of rows y subject_column) s (and_right (eqb (field_of rows y year_column) year) (eqb (field_of rows y subject_column) s) e)

  pub both_of : field_of rows y year_column ≡ year → field_of rows y subject_column ≡ s → is_of rows year s y ≡ true
  both_of e f = rw (eq-eqb (field_of rows y year_column) year e, eq-eqb (field_of rows y subject_column) s f)

pub own_of : (rows : List ℕ) (y : ℕ) → is_of rows (field_of rows y year_column) (field_of rows y subject_column) y ≡ true
own_of rows y = both_of rows (field_of rows y year_column) (field_of rows y subject_column) y refl refl

module _ (rows grant : List ℕ) (membership : ℕ) where
  -- ---- a row that admits a subject in a year
  module _ (year s y : ℕ) where
    pub admits_of : admits rows grant membership year s y ≡ true → is_of rows year s y ≡ true
    unfolding admits
    admits_of p = and_left (is_of rows year s y) _ p

    pub admits_other : is_of rows year s y ≡ false → admits rows grant membership year s y ≡ false
    unfolding admits
    admits_other n = rw n

    pub admits_else : is_of rows year s y ≡ true → (field_of rows y predicate_column ≡ membership → ⊥)
        → admits rows grant membership year s y ≡ false
    unfolding admits
    admits_else e n = rw (e, ne_eqb (field_of rows y predicate_column) membership n)

    pub admits_object : is_of rows year s y ≡ true → field_of rows y predicate_column ≡ membership
        → admits rows grant membership year s y ≡ member (field_of rows y object_column) grant
    unfolding admits
    admits_object e p = rw (e, eq-eqb (field_of rows y predicate_column) membership p)

    -- a row of another year admits nothing
    pub other_year : (field_of rows y year_column ≡ year → ⊥) → admits rows grant membership year s y ≡ false
    unfolding admits
    other_year n = rw (ne_eqb (field_of rows y year_column) year n)

  -- ---- a visible row
  pub seen : (row : ℕ) → visible rows grant membership row ≡ true → SeenRows rows grant membership row
  unfolding visible
  seen row e = go (decided (member (field_of rows row subject_column) grant))
    where
      go : Decided (member (field_of rows row subject_column) grant) → SeenRows rows grant membership row
      go (yes p) = granted p
      go (no p) = admitted (some_at _ (length rows / column_count) (rw p at e))

  pub by_grant : (row : ℕ) → member (field_of rows row subject_column) grant ≡ true → visible rows grant membership row ≡ true
  unfolding visible
  by_grant row p = rw p

  pub by_row_lem : (row y : ℕ) → y < length rows / column_count
      → admits rows grant membership (field_of rows row year_column) (field_of rows row subject_column) y ≡ true
      → visible rows grant membership row ≡ true
  unfolding visible
  by_row_lem row y h p =
      or-true (member (field_of rows row subject_column) grant) _
      (at_some (admits rows grant membership (field_of rows row year_column) (field_of rows row subject_column)) (length rows / column_count) y h p)

  -- where its subject is not granted
  pub by_others : (row : ℕ) → member (field_of rows row subject_column) grant ≡ false
      → visible rows grant membership row ≡ belongs rows grant membership (field_of rows row year_column) (field_of rows row subject_column)
  unfolding visible
  by_others row p = rw p

  -- a row that admits a subject is visible itself
  pub admits_seen : (year s y : ℕ) → y < length rows / column_count → admits rows grant membership year s y ≡ true
      → visible rows grant membership y ≡ true
  admits_seen year s y h p =
      let o = admits_of year s y p in
      by_row_lem y y h
      (subst (λ a. admits rows grant membership a (field_of rows y subject_column) y ≡ true) (sym (of_year_lem rows year s y o))
      (subst (λ b. admits rows grant membership year b y ≡ true) (sym (of_subject rows year s y o)) p))

  -- membership of another year makes nothing visible: a row whose subject is not granted is hidden where no row of its own year admits it,
  -- whatever rows of other years say
  pub within_year : (row : ℕ) → member (field_of rows row subject_column) grant ≡ false
      → ((y : ℕ) → y < length rows / column_count → field_of rows y year_column ≡ field_of rows row year_column
      → admits rows grant membership (field_of rows row year_column) (field_of rows row subject_column) y ≡ false)
      → visible rows grant membership row ≡ false
  within_year row p n = by_others row p ∙ rw (at_all (λ y. not (admits rows grant membership year s y)) (length rows / column_count) none)
    where
      year : ℕ
      year = field_of rows row year_column

      s : ℕ
      s = field_of rows row subject_column

      none : (y : ℕ) → y < length rows / column_count → not (admits rows grant membership year s y) ≡ true
      none y h = go (decided (eqb (field_of rows y year_column) year))
        where
          go : Decided (eqb (field_of rows y year_column) year) → not (admits rows grant membership year s y) ≡ true
          go (yes q) = rw (n y h (eqb-true (field_of rows y year_column) year q))
          go (no q) = rw (other_year year s y (eqb-false (field_of rows y year_column) year q))
