-- Sequences of what mappings stand for: as often, in order, the first of them; sets of what terms stand for.
use Prim.Native.Nat.{ℕ, ◌≤◌}
use native.Mathlib.Omega.{arith}
use mathlib.Core.Path.{◌≡◌, refl, sym, ◌∙◌, ap, ap₂, subst}
use mathlib.Core.Bool.{false, ◌||◌}
use mathlib.Core.Option.{Option, none, some}
use mathlib.Core.List.{List, [], ◌∷◌, map}
use mathlib.Core.Logic.{◌⊎◌, inl, inr}
use lib.ListN.{take}
use Rattle.sequences.specs.Sequences.{keep}
use Rattle.sequences.proofs.Booleans.{yes, no, decided}
use Rattle.sparql.specs.Terms.{Vocabulary, RdfTermOver, MappingOver, same_term, lookup}
use Rattle.sparql.specs.Algebra.{MultisetOver, occurrences, project_all}
use Rattle.sparql.specs.Ordering.{Comparator, tied, OrderBy, FirstOf}
use Rattle.sparql.specs.Aggregates.{if_bound, terms_bound, has_term, SameSet}
use Rattle.sparql.proofs.BestOf.{take_map}
use Rattle.sparql_strings.specs.Carrying.{Carrier, Keeps, Equality, carry_term, carry_value, carry_mapping, CarriedMultiset}
use Rattle.sparql_strings.proofs.Terms.{term_equal, carry_term_lem, carry_lookup, carry_occurrences, carry_project}
use Rattle.sparql_strings.proofs.Ordering.{carry_order, carry_keep}
use Rattle.sparql_strings.proofs.Multisets.{in_sequence, carried_list}

module _ {N M : Vocabulary} (c : Carrier N M) (k : Keeps c) (q : Equality M) where
  -- each as often
  pub carried_same : (xs ys : List (MappingOver N)) → ((μ : MappingOver N) → occurrences μ xs ≡ occurrences μ ys)
      → (ν : MappingOver M) → occurrences ν (map (carry_mapping c) xs) ≡ occurrences ν (map (carry_mapping c) ys)
  carried_same xs ys e ν = go (in_sequence c k q ν xs) (in_sequence c k q ν ys)
    where
      there : (μ : MappingOver N) × (ν ≡ carry_mapping c μ) → occurrences ν (map (carry_mapping c) xs) ≡ occurrences ν (map (carry_mapping c) ys)
      there r =
          subst (λ m. occurrences m (map (carry_mapping c) xs) ≡ occurrences m (map (carry_mapping c) ys)) (sym r.1)
          (carry_occurrences c k r.0 xs ∙ e r.0 ∙ sym (carry_occurrences c k r.0 ys))

      go : (occurrences ν (map (carry_mapping c) xs) ≡ 0) ⊎ ((μ : MappingOver N) × (ν ≡ carry_mapping c μ))
          → (occurrences ν (map (carry_mapping c) ys) ≡ 0) ⊎ ((μ : MappingOver N) × (ν ≡ carry_mapping c μ))
          → occurrences ν (map (carry_mapping c) xs) ≡ occurrences ν (map (carry_mapping c) ys)
      go (inr r) s = there r
      go (inl r) (inr s) = there s
      go (inl r) (inl s) = r ∙ sym s

  -- in order
  pub carried_order : (cs : List Comparator) (xs ys : List (MappingOver N)) → OrderBy cs xs ys
      → OrderBy cs (map (carry_mapping c) xs) (map (carry_mapping c) ys)
  carried_order cs xs ys o =
      record {
        same = carried_same ys xs o.same;
        ordered = carry_order c k cs ys ∙ o.ordered;
        stable = λ ν h. go ν h (in_sequence c k q ν xs);
      }
    where
      go : (ν : MappingOver M) → 1 ≤ occurrences ν (map (carry_mapping c) xs)
          → (occurrences ν (map (carry_mapping c) xs) ≡ 0) ⊎ ((μ : MappingOver N) × (ν ≡ carry_mapping c μ))
          → keep (tied cs ν) (map (carry_mapping c) ys) ≡ keep (tied cs ν) (map (carry_mapping c) xs)
      go ν h (inl r) = absurd (omega arith)
      go ν h (inr r) =
          let n : 1 ≤ occurrences r.0 xs
          = subst (λ i. 1 ≤ i) (ap (λ m. occurrences m (map (carry_mapping c) xs)) r.1 ∙ carry_occurrences c k r.0 xs) h in
          subst (λ m. keep (tied cs m) (map (carry_mapping c) ys) ≡ keep (tied cs m) (map (carry_mapping c) xs)) (sym r.1)
          (carry_keep c k cs r.0 ys ∙ ap (map (carry_mapping c)) (o.stable r.0 n) ∙ sym (carry_keep c k cs r.0 xs))

  pub carried_first : (ω : MultisetOver N) (ψ : MultisetOver M) → CarriedMultiset c ω ψ → (delivered : List (MappingOver N))
      (cs : List Comparator) (pv : List ℕ) (n : ℕ) (list : List (MappingOver N)) → FirstOf ω delivered cs pv n list
      → FirstOf ψ (map (carry_mapping c) delivered) cs pv n (map (carry_mapping c) list)
  carried_first ω ψ w delivered cs pv n list f =
      record {
        sequence = map (carry_mapping c) f.sequence;
        solutions = carried_list c k q ω ψ w f.sequence f.solutions;
        order = carried_order cs delivered f.sequence f.order;
        first =
            ap (map (carry_mapping c)) f.first
            ∙ sym (take_map (carry_mapping c) n (project_all pv f.sequence))
            ∙ sym (ap (take n) (carry_project c pv f.sequence));
      }

  -- ---- sets of terms
  pub carry_has : (x : RdfTermOver N) (xs : List (RdfTermOver N)) → has_term (carry_term c x) (map (carry_term c) xs) ≡ has_term x xs
  unfolding has_term
  carry_has x [] = refl
  carry_has x (y ∷ ys) = ap₂ ◌||◌ (carry_term_lem c k x y) (carry_has x ys)

  in_terms : (y : RdfTermOver M) (xs : List (RdfTermOver N))
      → (has_term y (map (carry_term c) xs) ≡ false) ⊎ ((x : RdfTermOver N) × (y ≡ carry_term c x))
  unfolding has_term
  in_terms y [] = inl refl
  in_terms y (x ∷ xs) =
      elim (decided (same_term y (carry_term c x))) [ yes e ↦ inr (x, term_equal q y (carry_term c x) e) | no e ↦ rw e (in_terms y xs) ]

  pub carried_set : (xs ys : List (RdfTermOver N)) → SameSet xs ys → SameSet (map (carry_term c) xs) (map (carry_term c) ys)
  carried_set xs ys e z = go (in_terms z xs) (in_terms z ys)
    where
      there : (x : RdfTermOver N) × (z ≡ carry_term c x) → has_term z (map (carry_term c) xs) ≡ has_term z (map (carry_term c) ys)
      there r =
          subst (λ m. has_term m (map (carry_term c) xs) ≡ has_term m (map (carry_term c) ys)) (sym r.1)
          (carry_has r.0 xs ∙ e r.0 ∙ sym (carry_has r.0 ys))

      go : (has_term z (map (carry_term c) xs) ≡ false) ⊎ ((x : RdfTermOver N) × (z ≡ carry_term c x))
          → (has_term z (map (carry_term c) ys) ≡ false) ⊎ ((x : RdfTermOver N) × (z ≡ carry_term c x))
          → has_term z (map (carry_term c) xs) ≡ has_term z (map (carry_term c) ys)
      go (inr r) s = there r
      go (inl r) (inr s) = there s
      go (inl r) (inl s) = r ∙ sym s

module _ {N M : Vocabulary} (c : Carrier N M) where
  carry_if : (x : Option (RdfTermOver N)) (ts : List (RdfTermOver N)) → if_bound (carry_value c x) (map (carry_term c) ts) ≡ map (carry_term c) (if_bound x ts)
  carry_if none ts = refl
  carry_if (some x) ts = refl

  pub carry_terms : (v : ℕ) (xs : List (MappingOver N)) → terms_bound v (map (carry_mapping c) xs) ≡ map (carry_term c) (terms_bound v xs)
  unfolding terms_bound
  carry_terms v [] = refl
  carry_terms v (x ∷ xs) = ap₂ if_bound (carry_lookup c x v) (carry_terms v xs) ∙ carry_if (lookup x v) (terms_bound v xs)
