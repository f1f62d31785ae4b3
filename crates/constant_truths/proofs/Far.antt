-- A value compared with a whole number that no table can hold: on words as SPARQL has it, by each of the six comparisons.
use Prim.Native.Nat.{ℕ, zero, suc, ◌+◌, ◌%◌, ◌<◌, ◌≤◌}
use native.Mathlib.Omega.{arith}
use mathlib.Core.Path.{◌≡◌, refl, sym, ◌∙◌, ap, ap₂}
use mathlib.Core.Bool.{Bool, true, false, cond, ◌&&◌, ◌||◌, not}
use lib.Dec.{eqb, ltb, leb}
use lib.IntN.{ℤ}
use borrow.Author.Tests.{eqb-true, ne_eqb, le-leb, le-ltb}
use Rattle.words.specs.Words.{term_values, term_kind, term_value, number_kind, text_kind, value_rank}
use Rattle.words.specs.Words.{is_number, is_variable, number, equal_to, unequal_to, last_operator}
use Rattle.words.specs.Bindings.{Bindings, value_of}
use Rattle.plans.specs.Conditions.{compared}
use Rattle.conditions.specs.declared.Truth.{Truth}
use Rattle.conditions.specs.declared.Truth.TheVariants.{True, False, Error}
use Rattle.conditions.specs.Truth.{of_test, conjunction, disjunction, negation, equality, inequality, comparison, truth_of}
use Rattle.sparql.specs.Terms.{Vocabulary, by_number, integer}
use Rattle.sparql.specs.Expressions.{Outcome, boolean, logical_or, operate, equal, not_equal, less, greater, less_or_equal, greater_or_equal}
use Rattle.sparql.specs.Reading.{term_of, operator_of}
use Rattle.sparql.proofs.Terms.{Sort, a_number, a_text, a_name, sort_of, kind_other}
use Rattle.sparql.proofs.Comparisons.{outcome_of, of_test_lem}
use Rattle.sparql_strings.specs.Carrying.{Carrier, carry_term}
use Rattle.constants.specs.Constants.{greatest_number, least_number, with_no_number, with_below, with_above}
use Rattle.constant_truths.specs.Absent.{FarNumber}

or-false : (t : Bool) → logical_or (boolean t) (boolean false) ≡ outcome_of (of_test t)
or-false true = refl
or-false false = refl

neither : (a b : Truth) → disjunction (negation a) (negation b) ≡ negation (conjunction a b)
neither True True = refl
neither True False = refl
neither True Error = refl
neither False True = refl
neither False False = refl
neither False Error = refl
neither Error True = refl
neither Error False = refl
neither Error Error = refl

rank_below : (w : ℕ) → value_rank w < term_values
rank_below w = go (is_number w)
  where
    go : (t : Bool) → cond t ((term_value w + 0x20000000) % 0x40000000) (term_value w) < term_values
    go true = omega arith
    go false = omega arith

-- ---- a word and a number, on words
module _ (w v : ℕ) (kn : eqb (term_kind v) number_kind ≡ true) (kt : eqb (term_kind v) text_kind ≡ false) where
  number_right_lem : (test : ℕ → ℕ → Bool) → inequality test w v ≡ cond (eqb (term_kind w) number_kind)
      (of_test (test (value_rank w) (value_rank v))) Error
  unfolding inequality
  number_right_lem test = go (sort_of w)
    where
      go : Sort w
          → cond ((eqb (term_kind w) number_kind && eqb (term_kind v) number_kind) || (eqb (term_kind w) text_kind && eqb (term_kind v) text_kind))
          (of_test (test (value_rank w) (value_rank v))) Error
          ≡ cond (eqb (term_kind w) number_kind) (of_test (test (value_rank w) (value_rank v))) Error
      go (a_number p q) = simp (p, q, kn, kt)
      go (a_text p q) = simp (p, q, kn, kt)
      go (a_name p q) = simp (p, q, kn, kt)

  number_left : (test : ℕ → ℕ → Bool) → inequality test v w ≡ cond (eqb (term_kind w) number_kind) (of_test (test (value_rank v) (value_rank w))) Error
  unfolding inequality
  number_left test = go (sort_of w)
    where
      go : Sort w
          → cond ((eqb (term_kind v) number_kind && eqb (term_kind w) number_kind) || (eqb (term_kind v) text_kind && eqb (term_kind w) text_kind))
          (of_test (test (value_rank v) (value_rank w))) Error
          ≡ cond (eqb (term_kind w) number_kind) (of_test (test (value_rank v) (value_rank w))) Error
      go (a_number p q) = simp (p, q, kn, kt)
      go (a_text p q) = simp (p, q, kn, kt)
      go (a_name p q) = simp (p, q, kn, kt)

  number_equal : equality w v ≡ cond (eqb (term_kind w) text_kind) Error (cond (eqb w v) True False)
  unfolding equality
  number_equal = go (sort_of w)
    where
      go : Sort w
          → cond (eqb w v) True
          (cond ((eqb (term_kind w) number_kind && eqb (term_kind v) text_kind) || (eqb (term_kind w) text_kind && eqb (term_kind v) number_kind)) Error False)
          ≡ cond (eqb (term_kind w) text_kind) Error (cond (eqb w v) True False)
      go (a_number p q) = simp (p, q, kn, kt)
      go (a_text p q) = simp (p, q, kn, kt, kind_other w v number_kind p kn)
      go (a_name p q) = simp (p, q, kn, kt)

-- two numbers are not both equal to one
module _ (w : ℕ) where
  not_both : conjunction (cond (eqb w (number 0)) True False) (cond (eqb w (number 1)) True False) ≡ False
  not_both = go (eqb w (number 0)) refl
    where
      go : (t : Bool) → eqb w (number 0) ≡ t → conjunction (cond t True False) (cond (eqb w (number 1)) True False) ≡ False
      go true e =
          let i = eqb-true w (number 0) e in
          rw (ne_eqb w (number 1) (λ z. omega (arith, i, z)))
      go false e = refl

  equals_none : conjunction (equality w (number 0)) (equality w (number 1)) ≡ cond (eqb (term_kind w) text_kind) Error False
  equals_none =
      ap₂ conjunction (number_equal w (number 0) refl refl) (number_equal w (number 1) refl refl) ∙ go (eqb (term_kind w) text_kind)
    where
      go : (t : Bool)
          → conjunction (cond t Error (cond (eqb w (number 0)) True False)) (cond t Error (cond (eqb w (number 1)) True False)) ≡ cond t Error False
      go true = refl
      go false = not_both

-- ---- as SPARQL has it
module _ {M : Vocabulary} (c : Carrier by_number M) (is_above : Bool) (z : ℤ) (far : FarNumber is_above z) (w : ℕ) where
  value_below : term_value w < term_values
  value_below = omega arith

  abbrev tested : Bool → Outcome
  tested t = outcome_of (cond (eqb (term_kind w) number_kind) (of_test t) Error)

  whole_less : operate less (carry_term c (term_of w)) (integer z) ≡ tested is_above
  whole_less = go (sort_of w)
    where
      go : Sort w → operate less (carry_term c (term_of w)) (integer z) ≡ tested is_above
      go (a_number p q) = simp (p, q, far.more (term_value w) value_below) (of_test_lem is_above)
      go (a_text p q) = simp (p, q)
      go (a_name p q) = simp (p, q)

  whole_at_most : operate less_or_equal (carry_term c (term_of w)) (integer z) ≡ tested is_above
  whole_at_most = go (sort_of w)
    where
      go : Sort w → operate less_or_equal (carry_term c (term_of w)) (integer z) ≡ tested is_above
      go (a_number p q) = simp (p, q, far.more (term_value w) value_below, far.apart (term_value w) value_below) (or-false is_above)
      go (a_text p q) = simp (p, q)
      go (a_name p q) = simp (p, q)

  whole_greater : operate greater (carry_term c (term_of w)) (integer z) ≡ tested (not is_above)
  whole_greater = go (sort_of w)
    where
      go : Sort w → operate greater (carry_term c (term_of w)) (integer z) ≡ tested (not is_above)
      go (a_number p q) = simp (p, q, far.fewer (term_value w) value_below) (of_test_lem (not is_above))
      go (a_text p q) = simp (p, q)
      go (a_name p q) = simp (p, q)

  whole_at_least : operate greater_or_equal (carry_term c (term_of w)) (integer z) ≡ tested (not is_above)
  whole_at_least = go (sort_of w)
    where
      go : Sort w → operate greater_or_equal (carry_term c (term_of w)) (integer z) ≡ tested (not is_above)
      go (a_number p q) = simp (p, q, far.fewer (term_value w) value_below, far.apart (term_value w) value_below) (or-false (not is_above))
      go (a_text p q) = simp (p, q)
      go (a_name p q) = simp (p, q)

  whole_equal : operate equal (carry_term c (term_of w)) (integer z) ≡ outcome_of (cond (eqb (term_kind w) text_kind) Error False)
  whole_equal = go (sort_of w)
    where
      go : Sort w → operate equal (carry_term c (term_of w)) (integer z) ≡ outcome_of (cond (eqb (term_kind w) text_kind) Error False)
      go (a_number p q) = simp (p, q, far.apart (term_value w) value_below)
      go (a_text p q) = simp (p, q)
      go (a_name p q) = simp (p, q)

  whole_unequal : operate not_equal (carry_term c (term_of w)) (integer z) ≡ outcome_of (negation (cond (eqb (term_kind w) text_kind) Error False))
  whole_unequal = go (sort_of w)
    where
      go : Sort w → operate not_equal (carry_term c (term_of w)) (integer z) ≡ outcome_of (negation (cond (eqb (term_kind w) text_kind) Error False))
      go (a_number p q) = simp (p, q, far.apart (term_value w) value_below)
      go (a_text p q) = simp (p, q)
      go (a_name p q) = simp (p, q)

-- ---- the six comparisons
module _ (w : ℕ) (b : Bindings) (x : ℕ) (e : value_of b x ≡ w) where
  at_word : (o t : ℕ) → is_variable t ≡ false → truth_of b (compared o x t) ≡ comparison o w t
  unfolding truth_of
  at_word o t k = rw (e, k)

  as_equal : truth_of b (with_no_number equal_to x) ≡ cond (eqb (term_kind w) text_kind) Error False
  unfolding truth_of comparison
  as_equal = ap₂ conjunction (at_word 0 (number 0) refl) (at_word 0 (number 1) refl) ∙ equals_none w

  as_unequal : truth_of b (with_no_number unequal_to x) ≡ negation (cond (eqb (term_kind w) text_kind) Error False)
  unfolding truth_of comparison
  as_unequal =
      ap₂ disjunction (at_word 1 (number 0) refl) (at_word 1 (number 1) refl)
      ∙ neither (equality w (number 0)) (equality w (number 1))
      ∙ ap negation (equals_none w)

  abbrev decided : Bool → Truth
  decided t = cond (eqb (term_kind w) number_kind) (of_test t) Error

  module _ {M : Vocabulary} (c : Carrier by_number M) (z : ℤ) where
    -- what the plan compares has the value that SPARQL gives a number above all that tables hold, and one below
    pub far_above : FarNumber true z → (o : ℕ) → o ≤ last_operator
        → outcome_of (truth_of b (with_above o x)) ≡ operate (operator_of o) (carry_term c (term_of w)) (integer z)
    unfolding comparison
    far_above far zero h = ap outcome_of as_equal ∙ sym (whole_equal c true z far w)
    far_above far (suc zero) h = ap outcome_of as_unequal ∙ sym (whole_unequal c true z far w)
    far_above far (suc (suc zero)) h =
        ap outcome_of
        (at_word 3 greatest_number refl ∙ number_right_lem w greatest_number refl refl leb ∙ ap decided
        (le-leb (value_rank w) 0x3FFFFFFF (let l = rank_below w in omega (arith, l))))
        ∙ sym (whole_less c true z far w)
    far_above far (suc (suc (suc zero))) h =
        ap outcome_of
        (at_word 3 greatest_number refl ∙ number_right_lem w greatest_number refl refl leb ∙ ap decided
        (le-leb (value_rank w) 0x3FFFFFFF (let l = rank_below w in omega (arith, l))))
        ∙ sym (whole_at_most c true z far w)
    far_above far (suc (suc (suc (suc zero)))) h =
        ap outcome_of
        (at_word 4 greatest_number refl ∙ number_left w greatest_number refl refl ltb ∙ ap decided
        (le-ltb 0x3FFFFFFF (value_rank w) (let l = rank_below w in omega (arith, l))))
        ∙ sym (whole_greater c true z far w)
    far_above far (suc (suc (suc (suc (suc zero))))) h =
        ap outcome_of
        (at_word 4 greatest_number refl ∙ number_left w greatest_number refl refl ltb ∙ ap decided
        (le-ltb 0x3FFFFFFF (value_rank w) (let l = rank_below w in omega (arith, l))))
        ∙ sym (whole_at_least c true z far w)
    far_above far (suc (suc (suc (suc (suc (suc o)))))) h = absurd (omega arith)

    pub far_below : FarNumber false z → (o : ℕ) → o ≤ last_operator
        → outcome_of (truth_of b (with_below o x)) ≡ operate (operator_of o) (carry_term c (term_of w)) (integer z)
    unfolding comparison
    far_below far zero h = ap outcome_of as_equal ∙ sym (whole_equal c false z far w)
    far_below far (suc zero) h = ap outcome_of as_unequal ∙ sym (whole_unequal c false z far w)
    far_below far (suc (suc zero)) h =
        ap outcome_of (at_word 2 least_number refl ∙ number_right_lem w least_number refl refl ltb ∙ ap decided (le-ltb (value_rank w) 0 (omega arith)))
        ∙ sym (whole_less c false z far w)
    far_below far (suc (suc (suc zero))) h =
        ap outcome_of (at_word 2 least_number refl ∙ number_right_lem w least_number refl refl ltb ∙ ap decided (le-ltb (value_rank w) 0 (omega arith)))
        ∙ sym (whole_at_most c false z far w)
    far_below far (suc (suc (suc (suc zero)))) h =
        ap outcome_of (at_word 5 least_number refl ∙ number_left w least_number refl refl leb ∙ ap decided (le-leb 0 (value_rank w) (omega arith)))
        ∙ sym (whole_greater c false z far w)
    far_below far (suc (suc (suc (suc (suc zero))))) h =
        ap outcome_of (at_word 5 least_number refl ∙ number_left w least_number refl refl leb ∙ ap decided (le-leb 0 (value_rank w) (omega arith)))
        ∙ sym (whole_at_least c false z far w)
    far_below far (suc (suc (suc (suc (suc (suc o)))))) h = absurd (omega arith)
