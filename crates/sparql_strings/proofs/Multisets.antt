-- Multisets of what mappings stand for: those of basic graph patterns, filters and unions, and the sequences of their mappings.
use Prim.Native.Nat.{◌+◌, ◌≤◌}
use native.Mathlib.Omega.{arith}
use mathlib.Core.Path.{◌≡◌, refl, sym, ◌∙◌, ap, ap₂, subst}
use mathlib.Core.Bool.{Bool, true, false, cond}
use mathlib.Core.List.{List, [], ◌∷◌, map}
use mathlib.Core.Logic.{◌⊎◌, inl, inr}
use Rattle.sequences.proofs.Booleans.{Decided, yes, no, decided}
use Rattle.sparql.specs.Terms.{Vocabulary, GraphOver, MappingOver, same_mapping}
use Rattle.sparql.specs.Expressions.{ExpressionOver, evaluate, is_effective}
use Rattle.sparql.specs.Algebra.{TriplePatternOver, MultisetOver, no_solutions, is_solution, basic_graph_pattern, filter, union, occurrences, ToList}
use Rattle.sparql_strings.specs.Carrying.{Carrier, Keeps, Equality, carry_mapping, carry_pattern, carry_expression, CarriedGraph, CarriedMultiset}
use Rattle.sparql_strings.proofs.Terms.{mapping_equal, mapping_self, carry_occurrences}
use Rattle.sparql_strings.proofs.Conditions.{carry_evaluate}
use Rattle.sparql_strings.proofs.Patterns.{carry_is_solution, only_solutions}

module _ {N M : Vocabulary} (c : Carrier N M) (k : Keeps c) where
  pub carried_pattern : (g : GraphOver N) (h : GraphOver M) → CarriedGraph c g h → (ps : List (TriplePatternOver N))
      → CarriedMultiset c (basic_graph_pattern g ps) (basic_graph_pattern h (map (carry_pattern c) ps))
  carried_pattern g h w ps =
      record {
        counts = λ μ. ap (λ b. cond b 1 0) (carry_is_solution c k g h w ps μ);
        only = λ ν. go ν (decided (is_solution h (map (carry_pattern c) ps) ν));
      }
    where
      go : (ν : MappingOver M) → Decided (is_solution h (map (carry_pattern c) ps) ν)
          → (basic_graph_pattern h (map (carry_pattern c) ps) ν ≡ 0) ⊎ ((μ : MappingOver N) × (ν ≡ carry_mapping c μ))
      go ν (yes e) = inr (only_solutions c k g h w ps ν e)
      go ν (no e) = inl (rw e refl)

  pub carried_none : CarriedMultiset c no_solutions no_solutions
  carried_none = record { counts = λ μ. refl; only = λ ν. inl refl }

  module _ (ω : MultisetOver N) (ψ : MultisetOver M) (w : CarriedMultiset c ω ψ) where
    pub carried_filter : (e : ExpressionOver N) → CarriedMultiset c (filter e ω) (filter (carry_expression c e) ψ)
    carried_filter e =
        record {
          counts = λ μ. ap₂ (λ o n. cond (is_effective o) n 0) (carry_evaluate c k μ e) (w.counts μ);
          only = λ ν. go ν (is_effective (evaluate ν (carry_expression c e))) (w.only ν);
        }
      where
        go : (ν : MappingOver M) (b : Bool) → (ψ ν ≡ 0) ⊎ ((μ : MappingOver N) × (ν ≡ carry_mapping c μ))
            → (cond b (ψ ν) 0 ≡ 0) ⊎ ((μ : MappingOver N) × (ν ≡ carry_mapping c μ))
        go ν true r = r
        go ν false r = inl refl

    pub carried_union : (ω₂ : MultisetOver N) (ψ₂ : MultisetOver M) → CarriedMultiset c ω₂ ψ₂
        → CarriedMultiset c (union ω ω₂) (union ψ ψ₂)
    carried_union ω₂ ψ₂ w₂ =
        record { counts = λ μ. ap₂ ◌+◌ (w.counts μ) (w₂.counts μ); only = λ ν. go ν (w.only ν) (w₂.only ν) }
      where
        go : (ν : MappingOver M) → (ψ ν ≡ 0) ⊎ ((μ : MappingOver N) × (ν ≡ carry_mapping c μ))
            → (ψ₂ ν ≡ 0) ⊎ ((μ : MappingOver N) × (ν ≡ carry_mapping c μ))
            → (ψ ν + ψ₂ ν ≡ 0) ⊎ ((μ : MappingOver N) × (ν ≡ carry_mapping c μ))
        go ν (inr r) s = inr r
        go ν (inl r) (inr s) = inr s
        go ν (inl r) (inl s) = inl (omega arith)

-- ---- sequences
module _ {N M : Vocabulary} (c : Carrier N M) (k : Keeps c) (q : Equality M) where
  -- a mapping is in no sequence of what others stand for, or is what one stands for
  pub in_sequence : (ν : MappingOver M) (xs : List (MappingOver N))
      → (occurrences ν (map (carry_mapping c) xs) ≡ 0) ⊎ ((μ : MappingOver N) × (ν ≡ carry_mapping c μ))
  unfolding occurrences
  in_sequence ν [] = inl refl
  in_sequence ν (x ∷ xs) =
      elim (decided (same_mapping ν (carry_mapping c x))) [
        | yes e ↦ inr (x, mapping_equal q ν (carry_mapping c x) e)
        | no e ↦ rw e (in_sequence ν xs)
      ]

  -- mappings of two multisets agree in what they stand for
  pub carried_list : (ω : MultisetOver N) (ψ : MultisetOver M) → CarriedMultiset c ω ψ → (xs : List (MappingOver N)) → ToList ω xs
      → ToList ψ (map (carry_mapping c) xs)
  carried_list ω ψ w xs t = record { occurs = λ ν. go ν (w.only ν) (in_sequence ν xs) }
    where
      there : (ν : MappingOver M) → (μ : MappingOver N) × (ν ≡ carry_mapping c μ) → occurrences ν (map (carry_mapping c) xs) ≡ ψ ν
      there ν r =
          subst (λ m. occurrences m (map (carry_mapping c) xs) ≡ ψ m) (sym r.1)
          (carry_occurrences c k r.0 xs ∙ t.occurs r.0 ∙ sym (w.counts r.0))

      go : (ν : MappingOver M) → (ψ ν ≡ 0) ⊎ ((μ : MappingOver N) × (ν ≡ carry_mapping c μ))
          → (occurrences ν (map (carry_mapping c) xs) ≡ 0) ⊎ ((μ : MappingOver N) × (ν ≡ carry_mapping c μ))
          → occurrences ν (map (carry_mapping c) xs) ≡ ψ ν
      go ν (inr r) s = there ν r
      go ν (inl r) (inr s) = there ν s
      go ν (inl r) (inl s) = s ∙ sym r

  occurs_here : (ν : MappingOver M) (ys : List (MappingOver M)) → 1 ≤ occurrences ν (ν ∷ ys)
  unfolding occurrences
  occurs_here ν ys = rw (mapping_self q ν) (omega arith)

  occurs_more : (ν y : MappingOver M) (ys : List (MappingOver M)) → occurrences ν ys ≤ occurrences ν (y ∷ ys)
  unfolding occurrences
  occurs_more ν y ys = elim (decided (same_mapping ν y)) [ yes e ↦ rw e (omega arith) | no e ↦ rw e (omega arith) ]

  -- a sequence whose mappings each stand for one
  pub sequence_from_lem : (ψ : MultisetOver M) (ω : MultisetOver N) → CarriedMultiset c ω ψ → (ys : List (MappingOver M))
      → ((ν : MappingOver M) → occurrences ν ys ≤ ψ ν) → (xs : List (MappingOver N)) × (ys ≡ map (carry_mapping c) xs)
  sequence_from_lem ψ ω w [] h = ([], refl)
  sequence_from_lem ψ ω w (y ∷ ys) h =
      let r = sequence_from_lem ψ ω w ys (λ ν. let a = occurs_more ν y ys in let b = h ν in omega arith) in
      let s = first (w.only y) in
      (s.0 ∷ r.0, ap₂ ◌∷◌ s.1 r.1)
    where
      first : (ψ y ≡ 0) ⊎ ((μ : MappingOver N) × (y ≡ carry_mapping c μ)) → (μ : MappingOver N) × (y ≡ carry_mapping c μ)
      first (inr s) = s
      first (inl s) = let a = occurs_here y ys in let b = h y in absurd (omega arith)

  -- each sequence of what mappings stand for is that of a sequence of them
  pub list_carried : (ω : MultisetOver N) (ψ : MultisetOver M) → CarriedMultiset c ω ψ → (ys : List (MappingOver M)) → ToList ψ ys
      → (xs : List (MappingOver N)) × (ys ≡ map (carry_mapping c) xs) × ToList ω xs
  list_carried ω ψ w ys t =
      let r = sequence_from_lem ψ ω w ys (λ ν. let e = t.occurs ν in omega arith) in (
        r.0,
        r.1,
        record {
          occurs =
              λ μ.
              sym (carry_occurrences c k μ r.0) ∙ ap (occurrences (carry_mapping c μ)) (sym r.1) ∙ t.occurs (carry_mapping c μ) ∙ w.counts μ;
        },
      )
