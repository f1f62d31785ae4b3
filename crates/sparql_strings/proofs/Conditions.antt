-- A condition has the value that it has of what terms and mappings stand for.
use mathlib.Core.Path.{◌≡◌, refl, ◌∙◌, ap, ap₂}
use mathlib.Core.Option.{Option, none, some}
use Rattle.sparql.specs.Terms.{Vocabulary, RdfTermOver, iri, integer, text, MappingOver}
use Rattle.sparql.specs.Expressions.{PatternTermOver, variable, constant, logical_and, logical_or, logical_not, fn_compare, rdf_term_equal}
use Rattle.sparql.specs.Expressions.{Operator, equal, not_equal, less, greater, less_or_equal, greater_or_equal, operate, compares_equal, is_minus_one, is_one}
use Rattle.sparql.specs.Expressions.{ExpressionOver, always, both, either, negated, compare, value_under, compare_values, evaluate}
use Rattle.sparql_strings.specs.Carrying.{Carrier, Keeps, carry_term, carry_value, carry_mapping, carry_pattern_term, carry_expression}
use Rattle.sparql_strings.proofs.Terms.{carry_lookup}

module _ {N M : Vocabulary} (c : Carrier N M) (k : Keeps c) where
  pub carry_text : (a b : N.Name) → fn_compare M (c.text a) (c.text b) ≡ fn_compare N a b
  carry_text a b = rw (k.text_before a b, k.same_text a b) refl

  pub carry_name : (a b : N.Name) → fn_compare M (c.name a) (c.name b) ≡ fn_compare N a b
  carry_name a b = rw (k.name_before a b, k.same_name a b) refl

  carry_equal : (x y : RdfTermOver N) → rdf_term_equal (carry_term c x) (carry_term c y) ≡ rdf_term_equal x y
  carry_equal (iri a) (iri b) = rw (k.same_name a b) refl
  carry_equal (iri a) (integer b) = refl
  carry_equal (iri a) (text b) = refl
  carry_equal (integer a) (iri b) = refl
  carry_equal (integer a) (integer b) = refl
  carry_equal (integer a) (text b) = refl
  carry_equal (text a) (iri b) = refl
  carry_equal (text a) (integer b) = refl
  carry_equal (text a) (text b) = rw (k.same_text a b) refl

  pub carry_operate : (o : Operator) (x y : RdfTermOver N) → operate o (carry_term c x) (carry_term c y) ≡ operate o x y
  carry_operate equal (iri a) (iri b) = carry_equal (iri a) (iri b)
  carry_operate equal (iri a) (integer b) = refl
  carry_operate equal (iri a) (text b) = refl
  carry_operate equal (integer a) (iri b) = refl
  carry_operate equal (integer a) (integer b) = refl
  carry_operate equal (integer a) (text b) = refl
  carry_operate equal (text a) (iri b) = refl
  carry_operate equal (text a) (integer b) = refl
  carry_operate equal (text a) (text b) = ap compares_equal (carry_text a b)
  carry_operate not_equal (iri a) (iri b) = ap logical_not (carry_equal (iri a) (iri b))
  carry_operate not_equal (iri a) (integer b) = refl
  carry_operate not_equal (iri a) (text b) = refl
  carry_operate not_equal (integer a) (iri b) = refl
  carry_operate not_equal (integer a) (integer b) = refl
  carry_operate not_equal (integer a) (text b) = refl
  carry_operate not_equal (text a) (iri b) = refl
  carry_operate not_equal (text a) (integer b) = refl
  carry_operate not_equal (text a) (text b) = ap (λ z. logical_not (compares_equal z)) (carry_text a b)
  carry_operate less (iri a) (iri b) = refl
  carry_operate less (iri a) (integer b) = refl
  carry_operate less (iri a) (text b) = refl
  carry_operate less (integer a) (iri b) = refl
  carry_operate less (integer a) (integer b) = refl
  carry_operate less (integer a) (text b) = refl
  carry_operate less (text a) (iri b) = refl
  carry_operate less (text a) (integer b) = refl
  carry_operate less (text a) (text b) = ap is_minus_one (carry_text a b)
  carry_operate greater (iri a) (iri b) = refl
  carry_operate greater (iri a) (integer b) = refl
  carry_operate greater (iri a) (text b) = refl
  carry_operate greater (integer a) (iri b) = refl
  carry_operate greater (integer a) (integer b) = refl
  carry_operate greater (integer a) (text b) = refl
  carry_operate greater (text a) (iri b) = refl
  carry_operate greater (text a) (integer b) = refl
  carry_operate greater (text a) (text b) = ap is_one (carry_text a b)
  carry_operate less_or_equal (iri a) (iri b) = refl
  carry_operate less_or_equal (iri a) (integer b) = refl
  carry_operate less_or_equal (iri a) (text b) = refl
  carry_operate less_or_equal (integer a) (iri b) = refl
  carry_operate less_or_equal (integer a) (integer b) = refl
  carry_operate less_or_equal (integer a) (text b) = refl
  carry_operate less_or_equal (text a) (iri b) = refl
  carry_operate less_or_equal (text a) (integer b) = refl
  carry_operate less_or_equal (text a) (text b) = ap (λ z. logical_not (is_one z)) (carry_text a b)
  carry_operate greater_or_equal (iri a) (iri b) = refl
  carry_operate greater_or_equal (iri a) (integer b) = refl
  carry_operate greater_or_equal (iri a) (text b) = refl
  carry_operate greater_or_equal (integer a) (iri b) = refl
  carry_operate greater_or_equal (integer a) (integer b) = refl
  carry_operate greater_or_equal (integer a) (text b) = refl
  carry_operate greater_or_equal (text a) (iri b) = refl
  carry_operate greater_or_equal (text a) (integer b) = refl
  carry_operate greater_or_equal (text a) (text b) = ap (λ z. logical_not (is_minus_one z)) (carry_text a b)

  pub carry_under : (μ : MappingOver N) (t : PatternTermOver N)
      → value_under (carry_mapping c μ) (carry_pattern_term c t) ≡ carry_value c (value_under μ t)
  carry_under μ (variable v) = carry_lookup c μ v
  carry_under μ (constant x) = refl

  carry_compare : (o : Operator) (x y : Option (RdfTermOver N)) → compare_values o (carry_value c x) (carry_value c y) ≡ compare_values o x y
  carry_compare o none y = refl
  carry_compare o (some x) none = refl
  carry_compare o (some x) (some y) = carry_operate o x y

  pub carry_evaluate : (μ : MappingOver N) (e : ExpressionOver N) → evaluate (carry_mapping c μ) (carry_expression c e) ≡ evaluate μ e
  unfolding evaluate carry_expression
  carry_evaluate μ always = refl
  carry_evaluate μ (both a b) = ap₂ logical_and (carry_evaluate μ a) (carry_evaluate μ b)
  carry_evaluate μ (either a b) = ap₂ logical_or (carry_evaluate μ a) (carry_evaluate μ b)
  carry_evaluate μ (negated a) = ap logical_not (carry_evaluate μ a)
  carry_evaluate μ (compare o l r) =
      ap₂ (compare_values o) (carry_under μ l) (carry_under μ r) ∙ carry_compare o (value_under μ l) (value_under μ r)
