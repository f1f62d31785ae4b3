-- The order of what values, keys and solutions stand for is theirs.
use mathlib.Core.Path.{◌≡◌, refl, ◌∙◌, ap, ap₂}
use mathlib.Core.Bool.{◌&&◌}
use mathlib.Core.Option.{Option, none, some}
use mathlib.Core.List.{List, [], ◌∷◌, map}
use Rattle.sequences.specs.Sequences.{all, keep}
use Rattle.sequences.proofs.Booleans.{yes, no, decided}
use Rattle.sparql.specs.Terms.{Vocabulary, RdfTermOver, iri, integer, text, MappingOver, lookup}
use Rattle.sparql.specs.Expressions.{is_effective, is_minus_one}
use Rattle.sparql.specs.Ordering.{term_before, value_before, values_before, keys_ascend, Comparator, asc, desc, before_by}
use Rattle.sparql.specs.Ordering.{solution_before, tied, none_before, in_order}
use Rattle.sparql_strings.specs.Carrying.{Carrier, Keeps, carry_term, carry_value, carry_mapping}
use Rattle.sparql_strings.proofs.Terms.{carry_lookup}
use Rattle.sparql_strings.proofs.Conditions.{carry_text, carry_name}

module _ {N M : Vocabulary} (c : Carrier N M) (k : Keeps c) where
  carry_term_before : (x y : RdfTermOver N) → term_before (carry_term c x) (carry_term c y) ≡ term_before x y
  carry_term_before (iri a) (iri b) = ap (λ z. is_effective (is_minus_one z)) (carry_name c k a b)
  carry_term_before (iri a) (integer b) = refl
  carry_term_before (iri a) (text b) = refl
  carry_term_before (integer a) (iri b) = refl
  carry_term_before (integer a) (integer b) = refl
  carry_term_before (integer a) (text b) = refl
  carry_term_before (text a) (iri b) = refl
  carry_term_before (text a) (integer b) = refl
  carry_term_before (text a) (text b) = ap (λ z. is_effective (is_minus_one z)) (carry_text c k a b)

  pub carry_before : (x y : Option (RdfTermOver N)) → value_before (carry_value c x) (carry_value c y) ≡ value_before x y
  carry_before none none = refl
  carry_before none (some y) = refl
  carry_before (some x) none = refl
  carry_before (some x) (some y) = carry_term_before x y

  pub carry_values : (μ ν : MappingOver N) → values_before (carry_mapping c μ) (carry_mapping c ν) ≡ values_before μ ν
  unfolding values_before
  carry_values [] [] = refl
  carry_values (x ∷ xs) [] = refl
  carry_values [] (y ∷ ys) = refl
  carry_values (x ∷ xs) (y ∷ ys) = rw (carry_before x y, carry_before y x, carry_values xs ys) refl

  carry_all : (key : MappingOver N) (keys : List (MappingOver N))
      → all (values_before (carry_mapping c key)) (map (carry_mapping c) keys) ≡ all (values_before key) keys
  unfolding all
  carry_all key [] = refl
  carry_all key (x ∷ xs) = ap₂ ◌&&◌ (carry_values key x) (carry_all key xs)

  pub carry_ascend : (keys : List (MappingOver N)) → keys_ascend (map (carry_mapping c) keys) ≡ keys_ascend keys
  unfolding keys_ascend
  carry_ascend [] = refl
  carry_ascend (x ∷ xs) = ap₂ ◌&&◌ (carry_all x xs) (carry_ascend xs)

  carry_by : (o : Comparator) (μ ν : MappingOver N) → before_by o (carry_mapping c μ) (carry_mapping c ν) ≡ before_by o μ ν
  carry_by (asc v) μ ν = ap₂ value_before (carry_lookup c μ v) (carry_lookup c ν v) ∙ carry_before (lookup μ v) (lookup ν v)
  carry_by (desc v) μ ν = ap₂ value_before (carry_lookup c ν v) (carry_lookup c μ v) ∙ carry_before (lookup ν v) (lookup μ v)

  pub carry_solution : (cs : List Comparator) (μ ν : MappingOver N)
      → solution_before cs (carry_mapping c μ) (carry_mapping c ν) ≡ solution_before cs μ ν
  unfolding solution_before
  carry_solution [] μ ν = refl
  carry_solution (o ∷ os) μ ν = rw (carry_by o μ ν, carry_by o ν μ, carry_solution os μ ν) refl

  pub carry_tied : (cs : List Comparator) (μ ν : MappingOver N) → tied cs (carry_mapping c μ) (carry_mapping c ν) ≡ tied cs μ ν
  carry_tied cs μ ν = rw (carry_solution cs ν μ, carry_solution cs μ ν) refl

  carry_none : (cs : List Comparator) (μ : MappingOver N) (xs : List (MappingOver N))
      → none_before cs (carry_mapping c μ) (map (carry_mapping c) xs) ≡ none_before cs μ xs
  unfolding none_before
  carry_none cs μ [] = refl
  carry_none cs μ (x ∷ xs) = rw (carry_solution cs x μ, carry_none cs μ xs) refl

  pub carry_order : (cs : List Comparator) (xs : List (MappingOver N)) → in_order cs (map (carry_mapping c) xs) ≡ in_order cs xs
  unfolding in_order
  carry_order cs [] = refl
  carry_order cs (x ∷ xs) = ap₂ ◌&&◌ (carry_none cs x xs) (carry_order cs xs)

  pub carry_keep : (cs : List Comparator) (μ : MappingOver N) (xs : List (MappingOver N))
      → keep (tied cs (carry_mapping c μ)) (map (carry_mapping c) xs) ≡ map (carry_mapping c) (keep (tied cs μ) xs)
  unfolding keep
  carry_keep cs μ [] = refl
  carry_keep cs μ (x ∷ xs) =
      elim (decided (tied cs μ x)) [
        | yes e ↦ rw (carry_tied cs μ x, e, carry_keep cs μ xs) refl
        | no e ↦ rw (carry_tied cs μ x, e, carry_keep cs μ xs) refl
      ]
