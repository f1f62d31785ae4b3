-- Comparisons by cases. Of two numbers, or of two texts, the places in the order of keys are in the order of the values.
use Prim.Native.Nat.{ℕ, suc, ◌+◌, ◌*◌, ◌<◌}
use native.Mathlib.Omega.{arith}
use mathlib.Core.Path.{◌≡◌, refl, sym, ap, ap₂, ◌∙◌}
use mathlib.Core.Bool.{Bool, true, false, cond, ◌||◌}
use lib.Dec.{eqb, ltb, leb}
use borrow.Author.Tests.{eqb-true, eq-eqb, ne_eqb, le-leb, lt-leb, leb-true, leb-false}
use Rattle.words.specs.Words.{term_kind, term_values, value_rank, key_rank, number_kind, text_kind, variable_kind}
use Rattle.sequences.proofs.Booleans.{and_left, and_right}
use Rattle.words.proofs.Ranks.{rank_bound}
use Rattle.conditions.specs.declared.Truth.TheVariants.{True, False, Error}
use Rattle.conditions.specs.Truth.{of_test, kinds_are, equality, inequality}
use Rattle.conditions.specs.Values.{have_order, are_mixed}

-- ---- two terms of kinds that are given
of_kinds : (j k a b : ℕ) → kinds_are j k a b ≡ true → (term_kind a ≡ j) × (term_kind b ≡ k)
of_kinds j k a b e = (
  eqb-true (term_kind a) j (and_left (eqb (term_kind a) j) (eqb (term_kind b) k) e),
  eqb-true (term_kind b) k (and_right (eqb (term_kind a) j) (eqb (term_kind b) k) e),
)

-- terms that have an order are of one kind, and no variables
pub one_kind : (a b : ℕ) → have_order a b ≡ true → (term_kind a ≡ term_kind b) × (term_kind b < variable_kind)
one_kind a b e = go (kinds_are number_kind number_kind a b) refl e
  where
    go : (t : Bool) → kinds_are number_kind number_kind a b ≡ t → t || kinds_are text_kind text_kind a b ≡ true
        → (term_kind a ≡ term_kind b) × (term_kind b < variable_kind)
    go true p q = let h = of_kinds number_kind number_kind a b p in (h.0 ∙ sym h.1, omega (arith, h.1))
    go false p q = let h = of_kinds text_kind text_kind a b q in (h.0 ∙ sym h.1, omega (arith, h.1))

-- terms of one kind are in the order of keys as they are in the order of their kind
module _ (a b : ℕ) (e : term_kind a ≡ term_kind b) (k : term_kind b < variable_kind) where
  apart : (key_rank a ≡ 1 + term_kind b * term_values + value_rank a) × (key_rank b ≡ 1 + term_kind b * term_values + value_rank b)
  apart = (
    rank_bound a (omega arith) ∙ ap (λ j. 1 + j * term_values + value_rank a) e,
    rank_bound b (omega arith),
  )

  ranks_as_values : (test : ℕ → ℕ → Bool) → ((n x y : ℕ) → test (n + x) (n + y) ≡ test x y)
      → test (value_rank a) (value_rank b) ≡ test (key_rank a) (key_rank b)
  ranks_as_values test moved = sym (ap₂ test apart.0 apart.1 ∙ moved (1 + term_kind b * term_values) (value_rank a) (value_rank b))

-- ---- inequalities: numbers are in the order in which they are with the same added to both
pub at_most_moved : (n x y : ℕ) → leb (n + x) (n + y) ≡ leb x y
at_most_moved n x y = go (leb x y) refl
  where
    go : (t : Bool) → leb x y ≡ t → leb (n + x) (n + y) ≡ t
    go true p = le-leb (n + x) (n + y) (omega (arith, leb-true x y p))
    go false p = lt-leb (n + x) (n + y) (omega (arith, leb-false x y p))

pub less_moved : (n x y : ℕ) → ltb (n + x) (n + y) ≡ ltb x y
less_moved n x y = let e : suc (n + x) ≡ n + suc x = omega arith in ap (λ z. leb z (n + y)) e ∙ at_most_moved n (suc x) y

module _ (a b : ℕ) where
  ordered_test : (test : ℕ → ℕ → Bool) → ((n x y : ℕ) → test (n + x) (n + y) ≡ test x y) → have_order a b ≡ true
      → inequality test a b ≡ of_test (test (key_rank a) (key_rank b))
  unfolding inequality
  ordered_test test moved e = rw (e, ranks_as_values a b (one_kind a b e).0 (one_kind a b e).1 test moved)

  no_order : (test : ℕ → ℕ → Bool) → have_order a b ≡ false → inequality test a b ≡ Error
  unfolding inequality
  no_order test e = rw e

  -- both, where the test is made of the ranks
  pub by_ranks : (test : ℕ → ℕ → Bool) → ((n x y : ℕ) → test (n + x) (n + y) ≡ test x y) → (x y : ℕ) → x ≡ key_rank a → y ≡ key_rank b
      → cond (have_order a b) (of_test (test x y)) Error ≡ inequality test a b
  by_ranks test moved x y ex ey = go (have_order a b) refl
    where
      go : (t : Bool) → have_order a b ≡ t → cond t (of_test (test x y)) Error ≡ inequality test a b
      go true e = rw (ex, ey) (sym (ordered_test test moved e))
      go false e = sym (no_order test e)

  -- ---- equality
  pub equal_same : a ≡ b → equality a b ≡ True
  unfolding equality
  equal_same e = rw (eq-eqb a b e)

  module _ (h : a ≡ b → ⊥) where
    pub equal_mixed : are_mixed a b ≡ true → equality a b ≡ Error
    unfolding equality
    equal_mixed e = rw (ne_eqb a b h, e)

    pub unequal : are_mixed a b ≡ false → equality a b ≡ False
    unfolding equality
    unequal e = rw (ne_eqb a b h, e)
