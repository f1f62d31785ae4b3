-- The graph of what the rows of a year stand for, and the solutions of a plan over it.
use Prim.Native.Nat.{ℕ}
use mathlib.Core.Path.{◌≡◌, refl, sym, ap₂}
use mathlib.Core.Bool.{true, ◌&&◌, ◌||◌, true≢false}
use mathlib.Core.List.{List, [], ◌∷◌, map}
use lib.Dec.{eqb}
use Rattle.sequences.proofs.Booleans.{and_left, and_right, yes, no, decided}
use Rattle.tables.specs.Tables.{Tables, Section, section}
use Rattle.plans.specs.Branches.{Branch}
use Rattle.plans.specs.Plans.{Plan}
use Rattle.sparql.specs.Terms.{Vocabulary, by_number, TripleOver, same_term, same_triple}
use Rattle.sparql.specs.Algebra.{MultisetOver, basic_graph_pattern, unions}
use Rattle.sparql.specs.Years.{years_read}
use Rattle.sparql.specs.Reading.{triple_in, has_triple, graph_of, patterns_of, expression_of, branch_solutions, solutions_in, solutions_of}
use Rattle.sparql_strings.specs.Carrying.{Carrier, Keeps, Equality, carry_triple, carry_pattern, CarriedGraph, CarriedMultiset}
use Rattle.sparql_strings.specs.Decoding.{triple_decoded, graph_decoded, branch_decoded, decoded_in, decoded_of}
use Rattle.sparql_strings.proofs.Terms.{term_equal, carry_triple_lem}
use Rattle.sparql_strings.proofs.Multisets.{carried_pattern, carried_none, carried_filter, carried_union}

triple_equal : {M : Vocabulary} → Equality M → (x y : TripleOver M) → same_triple x y ≡ true → x ≡ y
triple_equal q x y e =
    let b = same_term x.predicate y.predicate && same_term x.object y.object in
    let r = and_right (same_term x.subject y.subject) b e in
    let s = term_equal q x.subject y.subject (and_left (same_term x.subject y.subject) b e) in
    let p = term_equal q x.predicate y.predicate (and_left (same_term x.predicate y.predicate) (same_term x.object y.object) r) in
    let o = term_equal q x.object y.object (and_right (same_term x.predicate y.predicate) (same_term x.object y.object) r) in
    λ i. record { subject = s i; predicate = p i; object = o i }

module _ {M : Vocabulary} (c : Carrier by_number M) (k : Keeps c) (q : Equality M) where
  has : (year : ℕ) (ws : List ℕ) (x : TripleOver by_number) → has_triple (triple_decoded c) year ws (carry_triple c x) ≡ has_triple triple_in year ws x
  unfolding has_triple
  has year [] x = refl
  has year (y ∷ []) x = refl
  has year (y ∷ s ∷ []) x = refl
  has year (y ∷ s ∷ p ∷ []) x = refl
  has year (y ∷ s ∷ p ∷ o ∷ ws) x = ap₂ (λ a b. (eqb y year && a) || b) (carry_triple_lem c k x (triple_in s p o)) (has year ws x)

  only : (year : ℕ) (ws : List ℕ) (x : TripleOver M) → has_triple (triple_decoded c) year ws x ≡ true
      → (z : TripleOver by_number) × (x ≡ carry_triple c z)
  unfolding has_triple
  only year [] x e = absurd (true≢false (sym e))
  only year (y ∷ []) x e = absurd (true≢false (sym e))
  only year (y ∷ s ∷ []) x e = absurd (true≢false (sym e))
  only year (y ∷ s ∷ p ∷ []) x e = absurd (true≢false (sym e))
  only year (y ∷ s ∷ p ∷ o ∷ ws) x e =
      elim (decided (eqb y year && same_triple x (carry_triple c (triple_in s p o)))) [
        | yes h ↦ (
          triple_in s p o,
          triple_equal q x (carry_triple c (triple_in s p o)) (and_right (eqb y year) (same_triple x (carry_triple c (triple_in s p o))) h),
        )
        | no h ↦ only year ws x (rw h at e)
      ]

  pub carried_graph : (t : Section) → CarriedGraph c (graph_of t) (graph_decoded c t)
  carried_graph t = record { has = has t.year t.tables.rows; only = only t.year t.tables.rows }

  carried_branch : (t : Section) (b : Branch) → CarriedMultiset c (branch_solutions (graph_of t) b) (branch_decoded c (graph_decoded c t) b)
  carried_branch t b =
      carried_filter c k (basic_graph_pattern (graph_of t) (patterns_of b.terms))
      (basic_graph_pattern (graph_decoded c t) (map (carry_pattern c) (patterns_of b.terms)))
      (carried_pattern c k (graph_of t) (graph_decoded c t) (carried_graph t) (patterns_of b.terms))
      (expression_of b.condition)

  carried_unions : {A : Type 0} (ω : A → MultisetOver by_number) (ψ : A → MultisetOver M) → ((a : A) → CarriedMultiset c (ω a) (ψ a))
      → (xs : List A) → CarriedMultiset c (unions ω xs) (unions ψ xs)
  unfolding unions
  carried_unions ω ψ h [] = carried_none c k
  carried_unions ω ψ h (x ∷ xs) = carried_union c k (ω x) (ψ x) (h x) (unions ω xs) (unions ψ xs) (carried_unions ω ψ h xs)

  pub carried_in : (t : Tables) (p : Plan) (year : ℕ) → CarriedMultiset c (solutions_in t p year) (decoded_in c t p year)
  carried_in t p year =
      let s = section t year in
      carried_unions (branch_solutions (graph_of s)) (branch_decoded c (graph_decoded c s)) (carried_branch s) p.branches

  pub carried_solutions : (t : Tables) (p : Plan) → CarriedMultiset c (solutions_of t p) (decoded_of c t p)
  carried_solutions t p = carried_unions (solutions_in t p) (decoded_in c t p) (carried_in t p) (years_read t.rows p.years)
