-- A value compared with a name that the dictionary does not have: on words as on strings, by each of the six comparisons.
use Prim.Native.Nat.{ℕ, zero, suc, ◌≤◌}
use native.Mathlib.Omega.{arith}
use mathlib.Core.Path.{◌≡◌, sym, ◌∙◌, ap}
use mathlib.Core.Bool.{Bool, false, cond, ◌&&◌, ◌||◌}
use lib.Dec.{eqb, ltb, leb}
use borrow.Author.Tests.{ne_eqb}
use Rattle.words.specs.Words.{term_kind, number_kind, text_kind, value_rank, is_variable, last_operator}
use Rattle.words.specs.Words as words
use Rattle.words.specs.Bindings.{Bindings, value_of}
use Rattle.plans.specs.Conditions.{compared}
use Rattle.conditions.specs.declared.Truth.TheVariants.{True, False, Error}
use Rattle.conditions.specs.Truth.{of_test, negation, equality, inequality, comparison, truth_of}
use Rattle.sparql.specs.Terms.{Vocabulary, by_number, iri}
use Rattle.sparql.specs.Expressions.{operate, equal, not_equal, less, greater, less_or_equal, greater_or_equal, T, F, E}
use Rattle.sparql.specs.Reading.{term_of, operator_of}
use Rattle.sparql.proofs.Terms.{Sort, a_number, a_text, a_name, sort_of, other_kind}
use Rattle.sparql.proofs.Comparisons.{outcome_of}
use Rattle.sparql_strings.specs.Carrying.{Carrier, carry_term}
use Rattle.constant_truths.specs.Absent.{AbsentName, NameWithin}

-- ---- a word and a name, on words
module _ (w v : ℕ) (kn : eqb (term_kind v) number_kind ≡ false) (kt : eqb (term_kind v) text_kind ≡ false) where
  name_right : (test : ℕ → ℕ → Bool) → inequality test w v ≡ Error
  unfolding inequality
  name_right test = go (sort_of w)
    where
      go : Sort w
          → cond ((eqb (term_kind w) number_kind && eqb (term_kind v) number_kind) || (eqb (term_kind w) text_kind && eqb (term_kind v) text_kind))
          (of_test (test (value_rank w) (value_rank v))) Error
          ≡ Error
      go (a_number p q) = simp (p, q, kn, kt)
      go (a_text p q) = simp (p, q, kn, kt)
      go (a_name p q) = simp (p, q, kn, kt)

  name_left : (test : ℕ → ℕ → Bool) → inequality test v w ≡ Error
  unfolding inequality
  name_left test = simp (kn, kt)

  name_apart : NameWithin v w → equality w v ≡ False
  unfolding equality
  name_apart inside = go (sort_of w)
    where
      go : Sort w
          → cond (eqb w v) True
          (cond ((eqb (term_kind w) number_kind && eqb (term_kind v) text_kind) || (eqb (term_kind w) text_kind && eqb (term_kind v) number_kind)) Error False)
          ≡ False
      go (a_number p q) = simp (p, q, kn, kt, other_kind w v number_kind p kn)
      go (a_text p q) = simp (p, q, kn, kt, other_kind w v text_kind q kt)
      go (a_name p q) =
          let l = inside p q in
          let d : eqb w v ≡ false = ne_eqb w v (λ e. omega (arith, l, e)) in
          simp (p, q, kn, kt, d)

-- ---- on strings
module _ {M : Vocabulary} (c : Carrier by_number M) (count : ℕ) (s : M.Name) (absent : AbsentName c count s) (w : ℕ) (inside : NameWithin count w) where
  string_equal : operate equal (carry_term c (term_of w)) (iri s) ≡ F
  string_equal = go (sort_of w)
    where
      go : Sort w → operate equal (carry_term c (term_of w)) (iri s) ≡ F
      go (a_number p q) = simp (p, q)
      go (a_text p q) = simp (p, q)
      go (a_name p q) = simp (p, q, absent.apart w (inside p q))

  string_unequal : operate not_equal (carry_term c (term_of w)) (iri s) ≡ T
  string_unequal = go (sort_of w)
    where
      go : Sort w → operate not_equal (carry_term c (term_of w)) (iri s) ≡ T
      go (a_number p q) = simp (p, q)
      go (a_text p q) = simp (p, q)
      go (a_name p q) = simp (p, q, absent.apart w (inside p q))

  string_less : operate less (carry_term c (term_of w)) (iri s) ≡ E
  string_less = go (sort_of w)
    where
      go : Sort w → operate less (carry_term c (term_of w)) (iri s) ≡ E
      go (a_number p q) = simp (p, q)
      go (a_text p q) = simp (p, q)
      go (a_name p q) = simp (p, q)

  string_at_most : operate less_or_equal (carry_term c (term_of w)) (iri s) ≡ E
  string_at_most = go (sort_of w)
    where
      go : Sort w → operate less_or_equal (carry_term c (term_of w)) (iri s) ≡ E
      go (a_number p q) = simp (p, q)
      go (a_text p q) = simp (p, q)
      go (a_name p q) = simp (p, q)

  string_greater : operate greater (carry_term c (term_of w)) (iri s) ≡ E
  string_greater = go (sort_of w)
    where
      go : Sort w → operate greater (carry_term c (term_of w)) (iri s) ≡ E
      go (a_number p q) = simp (p, q)
      go (a_text p q) = simp (p, q)
      go (a_name p q) = simp (p, q)

  string_at_least : operate greater_or_equal (carry_term c (term_of w)) (iri s) ≡ E
  string_at_least = go (sort_of w)
    where
      go : Sort w → operate greater_or_equal (carry_term c (term_of w)) (iri s) ≡ E
      go (a_number p q) = simp (p, q)
      go (a_text p q) = simp (p, q)
      go (a_name p q) = simp (p, q)

  -- ---- the six comparisons
  kind_name : term_kind (words.name count) ≡ 0
  kind_name = omega (arith, absent.fits)

  no_number : eqb (term_kind (words.name count)) number_kind ≡ false
  no_number = ne_eqb (term_kind (words.name count)) number_kind (λ z. omega (arith, kind_name, z))

  no_text : eqb (term_kind (words.name count)) text_kind ≡ false
  no_text = ne_eqb (term_kind (words.name count)) text_kind (λ z. omega (arith, kind_name, z))

  no_variable : is_variable (words.name count) ≡ false
  no_variable = ne_eqb (term_kind (words.name count)) words.variable_kind (λ z. omega (arith, kind_name, z))

  within : NameWithin (words.name count) w
  within p q = let l = inside p q in omega (arith, l)

  module _ (b : Bindings) (x : ℕ) (e : value_of b x ≡ w) where
    at_word : (o : ℕ) → truth_of b (compared o x (words.name count)) ≡ comparison o w (words.name count)
    unfolding truth_of
    at_word o = rw (e, no_variable)

    -- what the plan compares has the value that SPARQL gives the name
    pub absent_name : (o : ℕ) → o ≤ last_operator
        → outcome_of (truth_of b (compared o x (words.name count))) ≡ operate (operator_of o) (carry_term c (term_of w)) (iri s)
    unfolding comparison
    absent_name zero h = ap outcome_of (at_word 0 ∙ name_apart w (words.name count) no_number no_text within) ∙ sym string_equal
    absent_name (suc zero) h =
        ap outcome_of (at_word 1 ∙ ap negation (name_apart w (words.name count) no_number no_text within)) ∙ sym string_unequal
    absent_name (suc (suc zero)) h = ap outcome_of (at_word 2 ∙ name_right w (words.name count) no_number no_text ltb) ∙ sym string_less
    absent_name (suc (suc (suc zero))) h =
        ap outcome_of (at_word 3 ∙ name_right w (words.name count) no_number no_text leb) ∙ sym string_at_most
    absent_name (suc (suc (suc (suc zero)))) h =
        ap outcome_of (at_word 4 ∙ name_left w (words.name count) no_number no_text ltb) ∙ sym string_greater
    absent_name (suc (suc (suc (suc (suc zero))))) h =
        ap outcome_of (at_word 5 ∙ name_left w (words.name count) no_number no_text leb) ∙ sym string_at_least
    absent_name (suc (suc (suc (suc (suc (suc o)))))) h = absurd (omega arith)
