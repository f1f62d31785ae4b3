-- What the same terms, triples, values and mappings stand for is the same, and what others stand for is other.
use Prim.Native.Nat.{ℕ, zero, suc}
use mathlib.Core.Path.{◌≡◌, refl, sym, ap, ap₂}
use mathlib.Core.Bool.{true, ◌&&◌, true≢false}
use mathlib.Core.Option.{Option, none, some}
use mathlib.Core.List.{List, [], ◌∷◌, map}
use Rattle.sequences.proofs.Booleans.{and_left, and_right}
use Rattle.sparql.specs.Terms.{Vocabulary, RdfTermOver, iri, integer, text, same_term, TripleOver, same_triple}
use Rattle.sparql.specs.Terms.{MappingOver, lookup, is_bound, same_value, same_mapping}
use Rattle.sparql.specs.Algebra.{occurrences, projection, project_all}
use Rattle.sparql.proofs.Integers.{same_integer_eq, same_integer_own}
use Rattle.sparql_strings.specs.Carrying.{Carrier, Keeps, Equality, carry_term, carry_value, carry_mapping, carry_triple}

-- ---- the test of equality of terms is one, where that of names and texts is
module _ {M : Vocabulary} (e : Equality M) where
  pub term_self : (x : RdfTermOver M) → same_term x x ≡ true
  term_self (iri a) = e.self a
  term_self (integer n) = same_integer_own n
  term_self (text a) = e.self a

  pub term_equal : (x y : RdfTermOver M) → same_term x y ≡ true → x ≡ y
  term_equal (iri a) (iri b) h = ap iri (e.equal a b h)
  term_equal (iri a) (integer b) h = absurd (true≢false (sym h))
  term_equal (iri a) (text b) h = absurd (true≢false (sym h))
  term_equal (integer a) (iri b) h = absurd (true≢false (sym h))
  term_equal (integer a) (integer b) h = ap integer (same_integer_eq a b h)
  term_equal (integer a) (text b) h = absurd (true≢false (sym h))
  term_equal (text a) (iri b) h = absurd (true≢false (sym h))
  term_equal (text a) (integer b) h = absurd (true≢false (sym h))
  term_equal (text a) (text b) h = ap text (e.equal a b h)

  pub value_equal : (x y : Option (RdfTermOver M)) → same_value x y ≡ true → x ≡ y
  value_equal none none h = refl
  value_equal none (some y) h = absurd (true≢false (sym h))
  value_equal (some x) none h = absurd (true≢false (sym h))
  value_equal (some x) (some y) h = ap some (term_equal x y h)

  pub value_self : (x : Option (RdfTermOver M)) → same_value x x ≡ true
  value_self none = refl
  value_self (some x) = term_self x

  pub mapping_equal : (μ ν : MappingOver M) → same_mapping μ ν ≡ true → μ ≡ ν
  unfolding same_mapping
  mapping_equal [] [] h = refl
  mapping_equal [] (y ∷ ys) h = absurd (true≢false (sym h))
  mapping_equal (x ∷ xs) [] h = absurd (true≢false (sym h))
  mapping_equal (x ∷ xs) (y ∷ ys) h =
      ap₂ ◌∷◌ (value_equal x y (and_left (same_value x y) (same_mapping xs ys) h)) (mapping_equal xs ys (and_right (same_value x y) (same_mapping xs ys) h))

  pub mapping_self : (μ : MappingOver M) → same_mapping μ μ ≡ true
  unfolding same_mapping
  mapping_self [] = refl
  mapping_self (x ∷ xs) = rw (value_self x) (mapping_self xs)

-- ---- what is carried over
module _ {N M : Vocabulary} (c : Carrier N M) (k : Keeps c) where
  pub carry_term_lem : (x y : RdfTermOver N) → same_term (carry_term c x) (carry_term c y) ≡ same_term x y
  carry_term_lem (iri a) (iri b) = k.same_name a b
  carry_term_lem (iri a) (integer b) = refl
  carry_term_lem (iri a) (text b) = refl
  carry_term_lem (integer a) (iri b) = refl
  carry_term_lem (integer a) (integer b) = refl
  carry_term_lem (integer a) (text b) = refl
  carry_term_lem (text a) (iri b) = refl
  carry_term_lem (text a) (integer b) = refl
  carry_term_lem (text a) (text b) = k.same_text a b

  pub carry_triple_lem : (x y : TripleOver N) → same_triple (carry_triple c x) (carry_triple c y) ≡ same_triple x y
  carry_triple_lem x y =
      rw (carry_term_lem x.subject y.subject, carry_term_lem x.predicate y.predicate, carry_term_lem x.object y.object) refl

  pub carry_value_lem : (x y : Option (RdfTermOver N)) → same_value (carry_value c x) (carry_value c y) ≡ same_value x y
  carry_value_lem none none = refl
  carry_value_lem none (some y) = refl
  carry_value_lem (some x) none = refl
  carry_value_lem (some x) (some y) = carry_term_lem x y

  pub carry_mapping_lem : (μ ν : MappingOver N) → same_mapping (carry_mapping c μ) (carry_mapping c ν) ≡ same_mapping μ ν
  unfolding same_mapping
  carry_mapping_lem [] [] = refl
  carry_mapping_lem [] (y ∷ ys) = refl
  carry_mapping_lem (x ∷ xs) [] = refl
  carry_mapping_lem (x ∷ xs) (y ∷ ys) = ap₂ ◌&&◌ (carry_value_lem x y) (carry_mapping_lem xs ys)

  pub carry_occurrences : (μ : MappingOver N) (xs : List (MappingOver N))
      → occurrences (carry_mapping c μ) (map (carry_mapping c) xs) ≡ occurrences μ xs
  unfolding occurrences
  carry_occurrences μ [] = refl
  carry_occurrences μ (x ∷ xs) = rw (carry_mapping_lem μ x, carry_occurrences μ xs) refl

-- ---- values of variables
module _ {N M : Vocabulary} (c : Carrier N M) where
  pub carry_lookup : (μ : MappingOver N) (v : ℕ) → lookup (carry_mapping c μ) v ≡ carry_value c (lookup μ v)
  carry_lookup [] v = refl
  carry_lookup (x ∷ xs) zero = refl
  carry_lookup (x ∷ xs) (suc v) = carry_lookup xs v

  pub carry_bound : (x : Option (RdfTermOver N)) → is_bound (carry_value c x) ≡ is_bound x
  carry_bound none = refl
  carry_bound (some x) = refl

  pub carry_projection : (vs : List ℕ) (μ : MappingOver N) → projection vs (carry_mapping c μ) ≡ carry_mapping c (projection vs μ)
  carry_projection [] μ = refl
  carry_projection (v ∷ vs) μ = ap₂ ◌∷◌ (carry_lookup μ v) (carry_projection vs μ)

  pub carry_project : (vs : List ℕ) (xs : List (MappingOver N))
      → project_all vs (map (carry_mapping c) xs) ≡ map (carry_mapping c) (project_all vs xs)
  carry_project vs [] = refl
  carry_project vs (x ∷ xs) = ap₂ ◌∷◌ (carry_projection vs x) (carry_project vs xs)
