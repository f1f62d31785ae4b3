-- Terms, patterns, expressions and mappings carried over from names and texts of one kind to those of another. Assumes nothing: these are definitions.
use Rattle.std.specs.Prelude.{◌≡◌, true, map, ◌⊎◌}
use Rattle.std.proofs.Math.Option.{Option, none, some}
use Rattle.sparql.specs.Terms.{Vocabulary, RdfTermOver, iri, integer, text, TripleOver, GraphOver, MappingOver}
use Rattle.sparql.specs.Expressions.{PatternTermOver, variable, constant, ExpressionOver, always, both, either, negated, compare}
use Rattle.sparql.specs.Algebra.{TriplePatternOver, MultisetOver}
use Rattle.sparql.specs.Aggregates.{AggregatesOver}

-- what names, and what texts, stand for
pub record Carrier (N M : Vocabulary) : Type 0 where
  pub name : N.Name → M.Name
  pub text : N.Name → M.Name

-- equality and order are kept
pub record Keeps {N M : Vocabulary} (c : Carrier N M) : Type 0 where
  pub same_name : (a b : N.Name) → M.same (c.name a) (c.name b) ≡ N.same a b
  pub same_text : (a b : N.Name) → M.same (c.text a) (c.text b) ≡ N.same a b
  pub name_before : (a b : N.Name) → M.before (c.name a) (c.name b) ≡ N.before a b
  pub text_before : (a b : N.Name) → M.before (c.text a) (c.text b) ≡ N.before a b

-- the test of equality is one
pub record Equality (M : Vocabulary) : Type 0 where
  pub self : (a : M.Name) → M.same a a ≡ true
  pub equal : (a b : M.Name) → M.same a b ≡ true → a ≡ b

module _ {N M : Vocabulary} (c : Carrier N M) where
  abbrev pub carry_term : RdfTermOver N → RdfTermOver M
  carry_term (iri a) = iri (c.name a)
  carry_term (integer n) = integer n
  carry_term (text a) = text (c.text a)

  abbrev pub carry_value : Option (RdfTermOver N) → Option (RdfTermOver M)
  carry_value none = none
  carry_value (some x) = some (carry_term x)

  abbrev pub carry_mapping : MappingOver N → MappingOver M
  carry_mapping μ = map carry_value μ

  abbrev pub carry_triple : TripleOver N → TripleOver M
  carry_triple x =
      record { subject = carry_term x.subject; predicate = carry_term x.predicate; object = carry_term x.object }

  abbrev pub carry_pattern_term : PatternTermOver N → PatternTermOver M
  carry_pattern_term (variable v) = variable v
  carry_pattern_term (constant x) = constant (carry_term x)

  abbrev pub carry_pattern : TriplePatternOver N → TriplePatternOver M
  carry_pattern p =
      record {
        subject = carry_pattern_term p.subject;
        predicate = carry_pattern_term p.predicate;
        object = carry_pattern_term p.object;
      }

  unfoldable pub carry_expression : ExpressionOver N → ExpressionOver M
  carry_expression always = always
  carry_expression (both a b) = both (carry_expression a) (carry_expression b)
  carry_expression (either a b) = either (carry_expression a) (carry_expression b)
  carry_expression (negated a) = negated (carry_expression a)
  carry_expression (compare o l r) = compare o (carry_pattern_term l) (carry_pattern_term r)

  abbrev pub carry_aggregates : AggregatesOver N → AggregatesOver M
  carry_aggregates g =
      record {
        key = carry_mapping g.key;
        count = g.count;
        numbers = g.numbers;
        total = g.total;
        least = carry_value g.least;
        greatest = carry_value g.greatest;
      }

  -- a graph of what the triples of another stand for, and of no other
  pub record CarriedGraph (g : GraphOver N) (h : GraphOver M) : Type 0 where
    pub has : (x : TripleOver N) → h (carry_triple x) ≡ g x
    pub only : (y : TripleOver M) → h y ≡ true → (x : TripleOver N) × (y ≡ carry_triple x)

  -- a multiset of what the mappings of another stand for, each as often, and of no other
  pub record CarriedMultiset (ω : MultisetOver N) (ψ : MultisetOver M) : Type 0 where
    pub counts : (μ : MappingOver N) → ψ (carry_mapping μ) ≡ ω μ
    pub only : (ν : MappingOver M) → (ψ ν ≡ 0) ⊎ ((μ : MappingOver N) × (ν ≡ carry_mapping μ))
