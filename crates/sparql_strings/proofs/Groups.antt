-- Groups of what solutions stand for, and their aggregates.
use Prim.Native.Nat.{ℕ}
use mathlib.Core.Path.{◌≡◌, refl, sym, ◌∙◌, ap, ap₂, subst}
use mathlib.Core.Bool.{Bool, cond, ◌&&◌}
use mathlib.Core.Option.{Option, none, some}
use mathlib.Core.List.{List, [], ◌∷◌, map}
use mathlib.Core.Logic.{◌⊎◌, inl, inr}
use lib.Dec.{eqb}
use lib.IntN.{ℤ}
use lib.ListN.{length, length-map}
use Rattle.sequences.specs.Sequences.{all, keep}
use Rattle.sequences.proofs.Booleans.{yes, no, decided}
use Rattle.sparql.specs.Terms.{Vocabulary, RdfTermOver, iri, integer, text, MappingOver, lookup, same_mapping}
use Rattle.sparql.specs.Algebra.{occurrences, projection}
use Rattle.sparql.specs.Aggregates.{group_of, if_number, numbers_of, sum, minimum, maximum, as_term}
use Rattle.sparql.specs.Aggregates.{AggregatesOver, aggregate, group_keys, AllAggregates, solution_keys, GroupBy}
use Rattle.sparql_strings.specs.Carrying.{Carrier, Keeps, Equality, carry_value, carry_mapping, carry_aggregates}
use Rattle.sparql_strings.proofs.Terms.{carry_lookup, carry_mapping_lem, carry_occurrences, carry_projection, carry_project}
use Rattle.sparql_strings.proofs.Multisets.{in_sequence}

module _ {N M : Vocabulary} (c : Carrier N M) where
  carry_if : (x : Option (RdfTermOver N)) (ns : List ℤ) → if_number (carry_value c x) ns ≡ if_number x ns
  carry_if none ns = refl
  carry_if (some (iri a)) ns = refl
  carry_if (some (integer n)) ns = refl
  carry_if (some (text a)) ns = refl

  carry_numbers : (v : ℕ) (xs : List (MappingOver N)) → numbers_of v (map (carry_mapping c) xs) ≡ numbers_of v xs
  unfolding numbers_of
  carry_numbers v [] = refl
  carry_numbers v (x ∷ xs) = ap₂ if_number (carry_lookup c x v) (carry_numbers v xs) ∙ carry_if (lookup x v) (numbers_of v xs)

  carry_as : (n : Option ℤ) → as_term {N = M} n ≡ carry_value c (as_term {N = N} n)
  carry_as none = refl
  carry_as (some n) = refl

  pub carry_keys : (gs : List (AggregatesOver N)) → group_keys (map (carry_aggregates c) gs) ≡ map (carry_mapping c) (group_keys gs)
  carry_keys [] = refl
  carry_keys (g ∷ gs) = ap (λ l. carry_mapping c g.key ∷ l) (carry_keys gs)

  pub carry_totals : (f : ℤ → Bool) (gs : List (AggregatesOver N))
      → all (λ (g : AggregatesOver M). f g.total) (map (carry_aggregates c) gs) ≡ all (λ (g : AggregatesOver N). f g.total) gs
  unfolding all
  carry_totals f [] = refl
  carry_totals f (g ∷ gs) = ap (λ b. f g.total && b) (carry_totals f gs)

  carry_solution_keys : (vs : List ℕ) (xs : List (MappingOver N)) → solution_keys vs (map (carry_mapping c) xs) ≡ map (carry_mapping c) (solution_keys vs xs)
  carry_solution_keys [] xs = refl
  carry_solution_keys (v ∷ vs) xs = carry_project c (v ∷ vs) xs

  module _ (k : Keeps c) where
    carry_group : (vs : List ℕ) (key : MappingOver N) (xs : List (MappingOver N))
        → group_of vs (carry_mapping c key) (map (carry_mapping c) xs) ≡ map (carry_mapping c) (group_of vs key xs)
    unfolding keep
    carry_group vs key [] = refl
    carry_group vs key (x ∷ xs) =
        let e : same_mapping (carry_mapping c key) (projection vs (carry_mapping c x)) ≡ same_mapping key (projection vs x) =
        ap (same_mapping (carry_mapping c key)) (carry_projection c vs x) ∙ carry_mapping_lem c k key (projection vs x) in
        elim (decided (same_mapping key (projection vs x))) [
          | yes h ↦ rw (e, h, carry_group vs key xs) refl
          | no h ↦ rw (e, h, carry_group vs key xs) refl
        ]

    pub carry_aggregate : (vs : List ℕ) (m : ℕ) (xs : List (MappingOver N)) (key : MappingOver N)
        → carry_aggregates c (aggregate vs m xs key) ≡ aggregate vs m (map (carry_mapping c) xs) (carry_mapping c key)
    carry_aggregate vs m xs key =
        let g = carry_group vs key xs in
        let l : length (group_of vs (carry_mapping c key) (map (carry_mapping c) xs)) ≡ length (group_of vs key xs) =
        ap length g ∙ length-map (group_of vs key xs) (carry_mapping c) in
        let n : numbers_of m (group_of vs (carry_mapping c key) (map (carry_mapping c) xs)) ≡ numbers_of m (group_of vs key xs) =
        ap (numbers_of m) g ∙ carry_numbers m (group_of vs key xs) in
        λ i. record {
          key = carry_mapping c key;
          count = sym l i;
          numbers = length (sym n i);
          total = sum (sym n i);
          least = (sym (carry_as (minimum (numbers_of m (group_of vs key xs)))) ∙ ap (λ ns. as_term (minimum ns)) (sym n)) i;
          greatest = (sym (carry_as (maximum (numbers_of m (group_of vs key xs)))) ∙ ap (λ ns. as_term (maximum ns)) (sym n)) i;
        }

    carry_all : (vs : List ℕ) (m : ℕ) (xs : List (MappingOver N)) (gs : List (AggregatesOver N)) → AllAggregates vs m xs gs
        → AllAggregates vs m (map (carry_mapping c) xs) (map (carry_aggregates c) gs)
    carry_all vs m xs [] a = tt
    carry_all vs m xs (g ∷ gs) a = (ap (carry_aggregates c) a.0 ∙ carry_aggregate vs m xs g.key, carry_all vs m xs gs a.1)

    pub carried_groups : Equality M → (vs : List ℕ) (m : ℕ) (xs : List (MappingOver N)) (gs : List (AggregatesOver N)) → GroupBy vs m xs gs
        → GroupBy vs m (map (carry_mapping c) xs) (map (carry_aggregates c) gs)
    carried_groups q vs m xs gs b =
        record {
          once =
              λ key.
              ap (occurrences key) (carry_keys gs)
              ∙ go key (in_sequence c k q key (group_keys gs)) (in_sequence c k q key (solution_keys vs xs))
              ∙ ap (λ l. cond (eqb (occurrences key l) 0) 0 1) (sym (carry_solution_keys vs xs));
          aggregates = carry_all vs m xs gs b.aggregates;
        }
      where
        there : (key : MappingOver M) → (μ : MappingOver N) × (key ≡ carry_mapping c μ)
            → occurrences key (map (carry_mapping c) (group_keys gs)) ≡ cond (eqb (occurrences key (map (carry_mapping c) (solution_keys vs xs))) 0) 0 1
        there key r =
            subst (λ n. occurrences n (map (carry_mapping c) (group_keys gs)) ≡ cond (eqb (occurrences n (map (carry_mapping c) (solution_keys vs xs))) 0) 0 1)
            (sym r.1)
            (carry_occurrences c k r.0 (group_keys gs)
            ∙ b.once r.0
            ∙ ap (λ n. cond (eqb n 0) 0 1) (sym (carry_occurrences c k r.0 (solution_keys vs xs))))

        go : (key : MappingOver M) → (occurrences key (map (carry_mapping c) (group_keys gs)) ≡ 0) ⊎ ((μ : MappingOver N) × (key ≡ carry_mapping c μ))
            → (occurrences key (map (carry_mapping c) (solution_keys vs xs)) ≡ 0) ⊎ ((μ : MappingOver N) × (key ≡ carry_mapping c μ))
            → occurrences key (map (carry_mapping c) (group_keys gs)) ≡ cond (eqb (occurrences key (map (carry_mapping c) (solution_keys vs xs))) 0) 0 1
        go key (inr r) s = there key r
        go key (inl r) (inr s) = there key s
        go key (inl r) (inl s) = r ∙ sym (ap (λ n. cond (eqb n 0) 0 1) s)
