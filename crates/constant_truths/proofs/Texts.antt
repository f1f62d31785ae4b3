-- A value compared with a text that the dictionary does not have: on words as on strings, by each of the six comparisons.
use Prim.Native.Nat.{ℕ, zero, suc, ◌≤◌}
use native.Mathlib.Omega.{arith}
use mathlib.Core.Path.{◌≡◌, refl, sym, ◌∙◌, ap}
use mathlib.Core.Bool.{Bool, true, false, cond, ◌&&◌, ◌||◌, not}
use lib.Dec.{eqb, ltb, leb}
use borrow.Author.Tests.{eq-eqb, ne_eqb, ltb-true, ltb-false, le-leb, lt-leb}
use Rattle.words.specs.Words.{term_kind, term_value, number_kind, text_kind, value_rank, is_variable, less_than, at_least, equal_to, unequal_to, last_operator}
use Rattle.words.specs.Words as words
use Rattle.words.specs.Bindings.{Bindings, value_of}
use Rattle.plans.specs.Conditions.{compared}
use Rattle.conditions.specs.declared.Truth.TheVariants.{True, False, Error}
use Rattle.conditions.specs.Truth.{of_test, negation, equality, inequality, comparison, truth_of}
use Rattle.sparql.specs.Terms.{Vocabulary, by_number, text}
use Rattle.sparql.specs.Expressions.{Outcome, F, logical_not, minus_one, one, is_minus_one, compares_equal}
use Rattle.sparql.specs.Expressions.{is_one, operate, equal, not_equal, less, greater, less_or_equal, greater_or_equal}
use Rattle.sparql.specs.Reading.{term_of, operator_of}
use Rattle.sparql.proofs.Terms.{Sort, a_number, a_text, a_name, sort_of, other_kind, kind_other}
use Rattle.sparql.proofs.Comparisons.{outcome_of}
use Rattle.sparql_strings.specs.Carrying.{Carrier, carry_term}
use Rattle.constants.specs.Constants.{with_no_text}
use Rattle.constant_truths.specs.Absent.{AbsentText, TextWithin}

-- ---- fn:compare where two texts differ
minus_one_lem : (t : Bool) → is_minus_one (cond t minus_one one) ≡ outcome_of (of_test t)
minus_one_lem true = refl
minus_one_lem false = refl

not_one : (t : Bool) → logical_not (is_one (cond t minus_one one)) ≡ outcome_of (of_test t)
not_one true = refl
not_one false = refl

is_one_lem : (t : Bool) → is_one (cond t minus_one one) ≡ outcome_of (of_test (not t))
is_one_lem true = refl
is_one_lem false = refl

not_minus_one : (t : Bool) → logical_not (is_minus_one (cond t minus_one one)) ≡ outcome_of (of_test (not t))
not_minus_one true = refl
not_minus_one false = refl

unequal : (t : Bool) → compares_equal (cond t minus_one one) ≡ F
unequal true = refl
unequal false = refl

turned_test : (n r : ℕ) → leb r n ≡ not (ltb n r)
turned_test n r = go (ltb n r) refl
  where
    go : (t : Bool) → ltb n r ≡ t → leb r n ≡ not t
    go true e = lt-leb r n (ltb-true n r e)
    go false e = le-leb r n (ltb-false n r e)

-- ---- a word and a text, on words
module _ (w v n : ℕ) (kn : eqb (term_kind v) number_kind ≡ false) (kt : eqb (term_kind v) text_kind ≡ true) (tv : term_value v ≡ n) where
  text_right : (test : ℕ → ℕ → Bool) → inequality test w v ≡ cond (eqb (term_kind w) text_kind) (of_test (test (term_value w) n)) Error
  unfolding inequality
  text_right test = go (sort_of w)
    where
      go : Sort w
          → cond ((eqb (term_kind w) number_kind && eqb (term_kind v) number_kind) || (eqb (term_kind w) text_kind && eqb (term_kind v) text_kind))
          (of_test (test (value_rank w) (value_rank v))) Error
          ≡ cond (eqb (term_kind w) text_kind) (of_test (test (term_value w) n)) Error
      go (a_number p q) = simp (p, q, kn, kt)
      go (a_text p q) = simp (p, q, kn, kt, tv)
      go (a_name p q) = simp (p, q, kn, kt)

  text_left : (test : ℕ → ℕ → Bool) → inequality test v w ≡ cond (eqb (term_kind w) text_kind) (of_test (test n (term_value w))) Error
  unfolding inequality
  text_left test = go (sort_of w)
    where
      go : Sort w
          → cond ((eqb (term_kind v) number_kind && eqb (term_kind w) number_kind) || (eqb (term_kind v) text_kind && eqb (term_kind w) text_kind))
          (of_test (test (value_rank v) (value_rank w))) Error
          ≡ cond (eqb (term_kind w) text_kind) (of_test (test n (term_value w))) Error
      go (a_number p q) = simp (p, q, kn, kt)
      go (a_text p q) = simp (p, q, kn, kt, tv)
      go (a_name p q) = simp (p, q, kn, kt)

  text_apart : TextWithin n w → equality w v ≡ cond (eqb (term_kind w) number_kind) Error False
  unfolding equality
  text_apart inside = go (sort_of w)
    where
      go : Sort w
          → cond (eqb w v) True
          (cond ((eqb (term_kind w) number_kind && eqb (term_kind v) text_kind) || (eqb (term_kind w) text_kind && eqb (term_kind v) number_kind)) Error False)
          ≡ cond (eqb (term_kind w) number_kind) Error False
      go (a_number p q) = simp (p, q, kn, kt, other_kind w v number_kind p kn)
      go (a_text p q) =
          let l = inside q in
          let d : eqb w v ≡ false = ne_eqb w v (λ e. let t = ap term_value e in omega (arith, l, t, tv)) in
          simp (p, q, kn, kt, d)
      go (a_name p q) = simp (p, q, kn, kt, kind_other w v text_kind q kt)

-- ---- on strings
module _ {M : Vocabulary} (c : Carrier by_number M) (count rank : ℕ) (s : M.Name) (absent : AbsentText c count rank s) (w : ℕ)
    (inside : TextWithin count w) where
  -- what is known of a text among the first `count`
  first : eqb (term_kind w) text_kind ≡ true → M.before (c.text (term_value w)) s ≡ ltb (term_value w) rank
  first q = absent.before (term_value w) (inside q)

  other : eqb (term_kind w) text_kind ≡ true → M.same (c.text (term_value w)) s ≡ false
  other q = absent.apart (term_value w) (inside q)

  abbrev tested : Bool → Outcome
  tested t = outcome_of (cond (eqb (term_kind w) text_kind) (of_test t) Error)

  string_less : operate less (carry_term c (term_of w)) (text s) ≡ tested (ltb (term_value w) rank)
  string_less = go (sort_of w)
    where
      go : Sort w → operate less (carry_term c (term_of w)) (text s) ≡ tested (ltb (term_value w) rank)
      go (a_number p q) = simp (p, q)
      go (a_text p q) = simp (p, q, first q, other q) (minus_one_lem (ltb (term_value w) rank))
      go (a_name p q) = simp (p, q)

  string_at_most : operate less_or_equal (carry_term c (term_of w)) (text s) ≡ tested (ltb (term_value w) rank)
  string_at_most = go (sort_of w)
    where
      go : Sort w → operate less_or_equal (carry_term c (term_of w)) (text s) ≡ tested (ltb (term_value w) rank)
      go (a_number p q) = simp (p, q)
      go (a_text p q) = simp (p, q, first q, other q) (not_one (ltb (term_value w) rank))
      go (a_name p q) = simp (p, q)

  string_greater : operate greater (carry_term c (term_of w)) (text s) ≡ tested (not (ltb (term_value w) rank))
  string_greater = go (sort_of w)
    where
      go : Sort w → operate greater (carry_term c (term_of w)) (text s) ≡ tested (not (ltb (term_value w) rank))
      go (a_number p q) = simp (p, q)
      go (a_text p q) = simp (p, q, first q, other q) (is_one_lem (ltb (term_value w) rank))
      go (a_name p q) = simp (p, q)

  string_at_least : operate greater_or_equal (carry_term c (term_of w)) (text s) ≡ tested (not (ltb (term_value w) rank))
  string_at_least = go (sort_of w)
    where
      go : Sort w → operate greater_or_equal (carry_term c (term_of w)) (text s) ≡ tested (not (ltb (term_value w) rank))
      go (a_number p q) = simp (p, q)
      go (a_text p q) = simp (p, q, first q, other q) (not_minus_one (ltb (term_value w) rank))
      go (a_name p q) = simp (p, q)

  string_equal : operate equal (carry_term c (term_of w)) (text s) ≡ outcome_of (cond (eqb (term_kind w) number_kind) Error False)
  string_equal = go (sort_of w)
    where
      go : Sort w → operate equal (carry_term c (term_of w)) (text s) ≡ outcome_of (cond (eqb (term_kind w) number_kind) Error False)
      go (a_number p q) = simp (p, q)
      go (a_text p q) = simp (p, q, first q, other q) (unequal (ltb (term_value w) rank))
      go (a_name p q) = simp (p, q)

  string_unequal : operate not_equal (carry_term c (term_of w)) (text s) ≡ outcome_of (negation (cond (eqb (term_kind w) number_kind) Error False))
  string_unequal = go (sort_of w)
    where
      go : Sort w → operate not_equal (carry_term c (term_of w)) (text s) ≡ outcome_of (negation (cond (eqb (term_kind w) number_kind) Error False))
      go (a_number p q) = simp (p, q)
      go (a_text p q) = simp (p, q, first q, other q) (ap logical_not (unequal (ltb (term_value w) rank)))
      go (a_name p q) = simp (p, q)

  -- ---- the six comparisons
  module _ (b : Bindings) (x : ℕ) (e : value_of b x ≡ w) where
    at_word : (o t : ℕ) → is_variable t ≡ false → truth_of b (compared o x t) ≡ comparison o w t
    unfolding truth_of
    at_word o t k = rw (e, k)

    module _ (n : ℕ) (h : n ≤ count) where
      kind_text : term_kind (words.text n) ≡ text_kind
      kind_text = omega (arith, h, absent.fits)

      is_text : eqb (term_kind (words.text n)) text_kind ≡ true
      is_text = eq-eqb (term_kind (words.text n)) text_kind kind_text

      no_number : eqb (term_kind (words.text n)) number_kind ≡ false
      no_number = ne_eqb (term_kind (words.text n)) number_kind (λ z. omega (arith, kind_text, z))

      no_variable : is_variable (words.text n) ≡ false
      no_variable = ne_eqb (term_kind (words.text n)) words.variable_kind (λ z. omega (arith, kind_text, z))

      value_text_lem : term_value (words.text n) ≡ n
      value_text_lem = omega (arith, h, absent.fits)

    below_rank : truth_of b (compared less_than x (words.text rank)) ≡ cond (eqb (term_kind w) text_kind) (of_test (ltb (term_value w) rank)) Error
    unfolding comparison
    below_rank =
        let k = absent.within in
        at_word less_than (words.text rank) (no_variable rank k)
        ∙ text_right w (words.text rank) rank (no_number rank k) (is_text rank k) (value_text_lem rank k) ltb

    from_rank : truth_of b (compared at_least x (words.text rank)) ≡ cond (eqb (term_kind w) text_kind) (of_test (not (ltb (term_value w) rank))) Error
    unfolding comparison
    from_rank =
        let k = absent.within in
        at_word at_least (words.text rank) (no_variable rank k)
        ∙ text_left w (words.text rank) rank (no_number rank k) (is_text rank k) (value_text_lem rank k) leb
        ∙ ap (λ t. cond (eqb (term_kind w) text_kind) (of_test t) Error) (turned_test (term_value w) rank)

    as_equal : truth_of b (compared equal_to x (words.text count)) ≡ cond (eqb (term_kind w) number_kind) Error False
    unfolding comparison
    as_equal =
        let k : count ≤ count = omega arith in
        at_word equal_to (words.text count) (no_variable count k)
        ∙ text_apart w (words.text count) count (no_number count k) (is_text count k) (value_text_lem count k) inside

    as_unequal : truth_of b (compared unequal_to x (words.text count)) ≡ negation (cond (eqb (term_kind w) number_kind) Error False)
    unfolding comparison
    as_unequal =
        let k : count ≤ count = omega arith in
        at_word unequal_to (words.text count) (no_variable count k)
        ∙ ap negation (text_apart w (words.text count) count (no_number count k) (is_text count k) (value_text_lem count k) inside)

    -- what the plan compares has the value that SPARQL gives the text
    pub absent_text : (o : ℕ) → o ≤ last_operator
        → outcome_of (truth_of b (with_no_text (words.text count) (words.text rank) o x)) ≡ operate (operator_of o) (carry_term c (term_of w)) (text s)
    absent_text zero h = ap outcome_of as_equal ∙ sym string_equal
    absent_text (suc zero) h = ap outcome_of as_unequal ∙ sym string_unequal
    absent_text (suc (suc zero)) h = ap outcome_of below_rank ∙ sym string_less
    absent_text (suc (suc (suc zero))) h = ap outcome_of below_rank ∙ sym string_at_most
    absent_text (suc (suc (suc (suc zero)))) h = ap outcome_of from_rank ∙ sym string_greater
    absent_text (suc (suc (suc (suc (suc zero))))) h = ap outcome_of from_rank ∙ sym string_at_least
    absent_text (suc (suc (suc (suc (suc (suc o)))))) h = absurd (omega arith)
