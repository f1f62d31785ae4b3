-- Basic graph patterns: the solutions over what a graph stands for are what its solutions stand for, and no other.
use Prim.Native.Nat.{ℕ, zero, suc, ◌<◌}
use native.Mathlib.Omega.{arith}
use mathlib.Core.Path.{◌≡◌, refl, sym, ◌∙◌, ap, ap₂, subst}
use mathlib.Core.Bool.{Bool, true, false, ◌&&◌, ◌||◌, true≢false}
use mathlib.Core.Option.{Option, none, some}
use mathlib.Core.List.{List, [], ◌∷◌, map}
use lib.Dec.{eqb}
use lib.ListN.{length, length-map}
use borrow.Author.Tests.{eqb-true}
use Rattle.sequences.specs.Sequences.{all, all_below}
use Rattle.sequences.proofs.Booleans.{and_left, and_right, Decided, yes, no, decided}
use Rattle.sequences.proofs.Counting.{all_at_lem}
use Rattle.sparql.specs.Terms.{Vocabulary, RdfTermOver, TripleOver, GraphOver, MappingOver, variables, lookup, is_bound}
use Rattle.sparql.specs.Expressions.{PatternTermOver, variable, constant, value_under}
use Rattle.sparql.specs.Algebra.{TriplePatternOver, is_variable_named, mentions, occurs, triple_of, instance_under, in_graph, same_truth, domain_is}
use Rattle.sparql.specs.Algebra.{is_solution}
use Rattle.sparql_strings.specs.Carrying.{Carrier, Keeps, carry_value, carry_mapping, carry_triple}
use Rattle.sparql_strings.specs.Carrying.{carry_pattern_term, carry_pattern, CarriedGraph}
use Rattle.sparql_strings.proofs.Terms.{carry_lookup, carry_bound}
use Rattle.sparql_strings.proofs.Conditions.{carry_under}

module _ {N M : Vocabulary} (c : Carrier N M) where
  -- ---- the variables of patterns
  carry_named : (v : ℕ) (t : PatternTermOver N) → is_variable_named v (carry_pattern_term c t) ≡ is_variable_named v t
  carry_named v (variable w) = refl
  carry_named v (constant x) = refl

  carry_mentions : (v : ℕ) (p : TriplePatternOver N) → mentions v (carry_pattern c p) ≡ mentions v p
  carry_mentions v p = rw (carry_named v p.subject, carry_named v p.predicate, carry_named v p.object) refl

  pub carry_occurs : (v : ℕ) (ps : List (TriplePatternOver N)) → occurs v (map (carry_pattern c) ps) ≡ occurs v ps
  unfolding occurs
  carry_occurs v [] = refl
  carry_occurs v (p ∷ ps) = ap₂ ◌||◌ (carry_mentions v p) (carry_occurs v ps)

  below_same : (f g : ℕ → Bool) → ((i : ℕ) → f i ≡ g i) → (n : ℕ) → all_below f n ≡ all_below g n
  unfolding all_below
  below_same f g h zero = refl
  below_same f g h (suc n) = ap₂ ◌&&◌ (below_same f g h n) (h n)

  carry_domain : (ps : List (TriplePatternOver N)) (μ : MappingOver N) → domain_is (map (carry_pattern c) ps) (carry_mapping c μ) ≡ domain_is ps μ
  carry_domain ps μ =
      ap₂ ◌&&◌ (ap (λ n. eqb n variables) (length-map μ (carry_value c)))
      (below_same
      (λ v. same_truth (is_bound (lookup (carry_mapping c μ) v)) (occurs v (map (carry_pattern c) ps)))
      (λ v. same_truth (is_bound (lookup μ v)) (occurs v ps))
      (λ v. ap₂ same_truth (ap is_bound (carry_lookup c μ v) ∙ carry_bound c (lookup μ v)) (carry_occurs v ps))
      variables)

  -- ---- the instances of patterns
  abbrev carry_optional : Option (TripleOver N) → Option (TripleOver M)
  carry_optional none = none
  carry_optional (some x) = some (carry_triple c x)

  carry_triple_of : (x y z : Option (RdfTermOver N)) → triple_of (carry_value c x) (carry_value c y) (carry_value c z) ≡ carry_optional (triple_of x y z)
  carry_triple_of none y z = refl
  carry_triple_of (some x) none z = refl
  carry_triple_of (some x) (some y) none = refl
  carry_triple_of (some x) (some y) (some z) = refl

  module _ (k : Keeps c) where
    carry_instance : (μ : MappingOver N) (p : TriplePatternOver N)
        → instance_under (carry_mapping c μ) (carry_pattern c p) ≡ carry_optional (instance_under μ p)
    carry_instance μ p =
        rw (carry_under c k μ p.subject, carry_under c k μ p.predicate, carry_under c k μ p.object)
        (carry_triple_of (value_under μ p.subject) (value_under μ p.predicate) (value_under μ p.object))

    module _ (g : GraphOver N) (h : GraphOver M) (w : CarriedGraph c g h) where
      carry_in_graph : (x : Option (TripleOver N)) → in_graph h (carry_optional x) ≡ in_graph g x
      carry_in_graph none = refl
      carry_in_graph (some x) = w.has x

      carry_all : (μ : MappingOver N) (ps : List (TriplePatternOver N))
          → all (λ p. in_graph h (instance_under (carry_mapping c μ) p)) (map (carry_pattern c) ps) ≡ all (λ p. in_graph g (instance_under μ p)) ps
      unfolding all
      carry_all μ [] = refl
      carry_all μ (p ∷ ps) =
          ap₂ ◌&&◌ (ap (in_graph h) (carry_instance μ p) ∙ carry_in_graph (instance_under μ p)) (carry_all μ ps)

      pub carry_is_solution : (ps : List (TriplePatternOver N)) (μ : MappingOver N)
          → is_solution h (map (carry_pattern c) ps) (carry_mapping c μ) ≡ is_solution g ps μ
      carry_is_solution ps μ = ap₂ ◌&&◌ (carry_domain ps μ) (carry_all μ ps)

      -- ---- no other solutions: each value is that of a variable of some pattern, and so stands in a triple
      abbrev Stood : Option (RdfTermOver M) → Type 0
      Stood y = (x : Option (RdfTermOver N)) × (y ≡ carry_value c x)

      abbrev Three : Option (RdfTermOver M) → Option (RdfTermOver M) → Option (RdfTermOver M) → Type 0
      Three x y z = Stood x × Stood y × Stood z

      in_three_lem : (x y z : Option (RdfTermOver M)) → in_graph h (triple_of x y z) ≡ true → Three x y z
      in_three_lem none y z e = absurd (true≢false (sym e))
      in_three_lem (some x) none z e = absurd (true≢false (sym e))
      in_three_lem (some x) (some y) none e = absurd (true≢false (sym e))
      in_three_lem (some x) (some y) (some z) e =
          let t = w.only (record { subject = x; predicate = y; object = z }) e in (
            (some t.0.subject, ap (λ (r : TripleOver M). some r.subject) t.1),
            (some t.0.predicate, ap (λ (r : TripleOver M). some r.predicate) t.1),
            (some t.0.object, ap (λ (r : TripleOver M). some r.object) t.1),
          )

      stood_term : (ν : MappingOver M) (v : ℕ) (t : PatternTermOver N) → is_variable_named v t ≡ true → Stood (value_under ν (carry_pattern_term c t))
          → Stood (lookup ν v)
      stood_term ν v (variable u) e s = subst (λ n. Stood (lookup ν n)) (sym (eqb-true v u e)) s
      stood_term ν v (constant x) e s = absurd (true≢false (sym e))

      stood_pattern : (ν : MappingOver M) (v : ℕ) (p : TriplePatternOver N) → mentions v p ≡ true
          → in_graph h (instance_under ν (carry_pattern c p)) ≡ true → Stood (lookup ν v)
      stood_pattern ν v p m e = go (decided (is_variable_named v p.subject)) (decided (is_variable_named v p.predicate))
        where
          three : Three (value_under ν (carry_pattern_term c p.subject)) (value_under ν (carry_pattern_term c p.predicate))
              (value_under ν (carry_pattern_term c p.object))
          three = in_three_lem (value_under ν (carry_pattern_term c p.subject)) (value_under ν (carry_pattern_term c p.predicate))
              (value_under ν (carry_pattern_term c p.object)) e

          go : Decided (is_variable_named v p.subject) → Decided (is_variable_named v p.predicate) → Stood (lookup ν v)
          go (yes a) b = stood_term ν v p.subject a three.0
          go (no a) (yes b) = stood_term ν v p.predicate b three.1
          go (no a) (no b) = stood_term ν v p.object (rw (a, b) at m) three.2

      stood_bound : (ν : MappingOver M) (v : ℕ) (ps : List (TriplePatternOver N)) → occurs v (map (carry_pattern c) ps) ≡ true
          → all (λ p. in_graph h (instance_under ν p)) (map (carry_pattern c) ps) ≡ true → Stood (lookup ν v)
      unfolding occurs all
      stood_bound ν v [] o e = absurd (true≢false (sym o))
      stood_bound ν v (p ∷ ps) o e =
          elim (decided (mentions v p)) [
            | yes m ↦ stood_pattern ν v p m
                (and_left (in_graph h (instance_under ν (carry_pattern c p))) (all (λ p. in_graph h (instance_under ν p)) (map (carry_pattern c) ps)) e)
            | no m ↦ stood_bound ν v ps (rw (carry_mentions v p ∙ m) at o)
                (and_right (in_graph h (instance_under ν (carry_pattern c p))) (all (λ p. in_graph h (instance_under ν p)) (map (carry_pattern c) ps)) e)
          ]

      unbound : (x : Option (RdfTermOver M)) → is_bound x ≡ false → Stood x
      unbound none e = (none, refl)
      unbound (some x) e = absurd (true≢false e)

      agree : (a b : Bool) → same_truth a b ≡ true → a ≡ b
      agree true true e = refl
      agree true false e = sym e
      agree false true e = e
      agree false false e = refl

      stood_list : (ν : MappingOver M) → ((v : ℕ) → v < length ν → Stood (lookup ν v)) → (μ : MappingOver N) × (ν ≡ carry_mapping c μ)
      stood_list [] f = ([], refl)
      stood_list (y ∷ ys) f =
          let x = f 0 (omega arith) in
          let r = stood_list ys (λ v l. f (suc v) (omega arith)) in
          (x.0 ∷ r.0, ap₂ ◌∷◌ x.1 r.1)

      pub only_solutions : (ps : List (TriplePatternOver N)) (ν : MappingOver M) → is_solution h (map (carry_pattern c) ps) ν ≡ true
          → (μ : MappingOver N) × (ν ≡ carry_mapping c μ)
      only_solutions ps ν e =
          let qs = map (carry_pattern c) ps in
          let d = and_left (domain_is qs ν) (all (λ p. in_graph h (instance_under ν p)) qs) e in
          let s = and_right (domain_is qs ν) (all (λ p. in_graph h (instance_under ν p)) qs) e in
          let test : ℕ → Bool = λ v. same_truth (is_bound (lookup ν v)) (occurs v qs) in
          let n = eqb-true (length ν) variables (and_left (eqb (length ν) variables) (all_below test variables) d) in
          let b = and_right (eqb (length ν) variables) (all_below test variables) d in
          stood_list ν (λ v l. at ps ν v s (agree (is_bound (lookup ν v)) (occurs v qs) (all_at_lem test variables b v (omega arith))))
        where
          at : (ps : List (TriplePatternOver N)) (ν : MappingOver M) (v : ℕ)
              → all (λ p. in_graph h (instance_under ν p)) (map (carry_pattern c) ps) ≡ true
              → is_bound (lookup ν v) ≡ occurs v (map (carry_pattern c) ps) → Stood (lookup ν v)
          at ps ν v s e =
              elim (decided (occurs v (map (carry_pattern c) ps))) [
                | yes o ↦ stood_bound ν v ps o s
                | no o ↦ unbound (lookup ν v) (e ∙ o)
              ]
