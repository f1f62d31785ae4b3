-- An answer of SPARQL over numbers is one over what they stand for.
use Prim.Native.Nat.{ℕ}
use mathlib.Core.Path.{◌≡◌, sym, ◌∙◌, ap, subst}
use mathlib.Core.List.{List, map, map-map}
use lib.ListN.{length}
use Rattle.words.specs.Bindings.{Bindings}
use Rattle.sequences.specs.Sequences.{all}
use Rattle.tables.specs.Tables.{Tables}
use Rattle.plans.specs.Endings.{Ending, rows, top, group, registers}
use Rattle.plans.specs.Plans.{Plan}
use Rattle.sparql.specs.Terms.{Vocabulary, by_number}
use Rattle.sparql.specs.Algebra.{occurrences, MultisetOver, ToList, project_all}
use Rattle.sparql.specs.Ordering.{keys_ascend, FirstOf}
use Rattle.sparql.specs.Aggregates.{AggregatesOver, group_keys, GroupBy, terms_bound, SameSet}
use Rattle.sparql.specs.Reading.{term_of, mapping_of, aggregates_in, variable_of, variables_of, comparators_of, solutions_in, solutions_of, is_signed64}
use Rattle.sparql.specs.Answers.{RowsAnswer, BestAnswer, GroupAnswer, RegistersAnswer, Answer}
use Rattle.sparql.specs.Answers.{YearByYear, YearByYearOver, RowsAnswerOver, BestAnswerOver, GroupAnswerOver, RegistersAnswerOver}
use Rattle.sparql_strings.specs.Carrying.{Carrier, Keeps, Equality, carry_term, carry_mapping, carry_aggregates, CarriedMultiset}
use Rattle.sparql_strings.specs.Decoding.{mapping_decoded, aggregates_decoded, decoded_in, decoded_of, read_decoded, AnswerDecoded}
use Rattle.sparql_strings.proofs.Terms.{carry_project}
use Rattle.sparql_strings.proofs.Ordering.{carry_ascend}
use Rattle.sparql_strings.proofs.Multisets.{carried_list, list_carried}
use Rattle.sparql_strings.proofs.Sequences.{carried_same, carried_first, carried_set, carry_terms}
use Rattle.sparql_strings.proofs.Groups.{carry_keys, carry_totals, carried_groups}
use Rattle.sparql_strings.proofs.Graphs.{carried_in, carried_solutions}

module _ {M : Vocabulary} (c : Carrier by_number M) (k : Keeps c) (q : Equality M) (t : Tables) (p : Plan) where
  -- what was delivered, and that year by year
  carried_delivered : (ω : MultisetOver by_number) (ψ : MultisetOver M) → CarriedMultiset c ω ψ → (bs : List Bindings) → ToList ω (map mapping_of bs)
      → ToList ψ (map (mapping_decoded c) bs)
  carried_delivered ω ψ w bs l = subst (ToList ψ) (map-map (carry_mapping c) mapping_of bs) (carried_list c k q ω ψ w (map mapping_of bs) l)

  pub carried_run : (delivered : List Bindings) → ToList (solutions_of t p) (map mapping_of delivered)
      → ToList (decoded_of c t p) (map (mapping_decoded c) delivered)
  carried_run = carried_delivered (solutions_of t p) (decoded_of c t p) (carried_solutions c k q t p)

  pub carried_years : (delivered : List Bindings) → YearByYear t p delivered → YearByYearOver (read_decoded c t p) t p delivered
  carried_years delivered y =
      record {
        rows_in = y.rows_in;
        each = λ year. carried_delivered (solutions_in t p year) (decoded_in c t p year) (carried_in c k q t p year) (y.rows_in year) (y.each year);
        joined = y.joined;
      }

  carried_rows : (delivered : List Bindings) (vs list : List ℕ) → RowsAnswer t p delivered vs list → RowsAnswerOver (read_decoded c t p) delivered vs list
  carried_rows delivered vs list a =
      record {
        rows = a.rows;
        words = a.words;
        values = a.values;
        counts =
            λ ys l row.
            let r = list_carried c k q (solutions_of t p) (decoded_of c t p) (carried_solutions c k q t p) ys l in
            ap (occurrences row) (sym (map-map (carry_mapping c) mapping_of a.rows))
            ∙ carried_same c k q (map mapping_of a.rows) (project_all (variables_of vs) r.0) (a.counts r.0 r.2) row
            ∙ ap (occurrences row) (sym (carry_project c (variables_of vs) r.0) ∙ ap (project_all (variables_of vs)) (sym r.1));
        order =
            sym (map-map (carry_mapping c) mapping_of a.rows)
            ∙ ap (map (carry_mapping c)) a.order
            ∙ sym (carry_project c (variables_of vs) (map mapping_of delivered))
            ∙ ap (project_all (variables_of vs)) (map-map (carry_mapping c) mapping_of delivered);
      }

  carried_best : (delivered : List Bindings) (n : ℕ) (vs keys list : List ℕ) → BestAnswer t p delivered n vs keys list
      → BestAnswerOver (read_decoded c t p) delivered n vs keys list
  carried_best delivered n vs keys list a =
      record {
        rows = a.rows;
        words = a.words;
        values = a.values;
        first =
            subst (λ l. FirstOf (decoded_of c t p) (map (mapping_decoded c) delivered) (comparators_of keys) (variables_of vs) n l)
            (map-map (carry_mapping c) mapping_of a.rows)
            (subst (λ d. FirstOf (decoded_of c t p) d (comparators_of keys) (variables_of vs) n (map (carry_mapping c) (map mapping_of a.rows)))
            (map-map (carry_mapping c) mapping_of delivered)
            (carried_first c k q (solutions_of t p) (decoded_of c t p) (carried_solutions c k q t p) (map mapping_of delivered) (comparators_of keys)
            (variables_of vs) n (map mapping_of a.rows) a.first));
      }

  carried_group : (vs : List ℕ) (m : ℕ) (list : List ℕ) → GroupAnswer t p vs m list → GroupAnswerOver (read_decoded c t p) vs m list
  carried_group vs m list a =
      let gs = map (aggregates_in (length vs)) a.records in
      let e : map (carry_aggregates c) gs ≡ map (aggregates_decoded c (length vs)) a.records
      = map-map (carry_aggregates c) (aggregates_in (length vs)) a.records in
      record {
        records = a.records;
        words = a.words;
        values = a.values;
        exact = ap (all (λ (g : AggregatesOver M). is_signed64 g.total)) (sym e) ∙ carry_totals c is_signed64 gs ∙ a.exact;
        order =
            ap (λ l. keys_ascend (group_keys l)) (sym e) ∙ ap keys_ascend (carry_keys c gs) ∙ carry_ascend c k (group_keys gs) ∙ a.order;
        aggregates =
            λ ys l.
            let r = list_carried c k q (solutions_of t p) (decoded_of c t p) (carried_solutions c k q t p) ys l in
            subst (GroupBy (variables_of vs) (variable_of m) ys) e
            (subst (λ zs. GroupBy (variables_of vs) (variable_of m) zs (map (carry_aggregates c) gs)) (sym r.1)
            (carried_groups c k q (variables_of vs) (variable_of m) r.0 gs (a.aggregates r.0 r.2)));
      }

  carried_registers : (v : ℕ) (list : List ℕ) → RegistersAnswer t p v list → RegistersAnswerOver (read_decoded c t p) v list
  carried_registers v list a =
      record {
        terms = a.terms;
        words = a.words;
        values = a.values;
        same =
            λ ys l.
            let r = list_carried c k q (solutions_of t p) (decoded_of c t p) (carried_solutions c k q t p) ys l in
            subst (λ s. SameSet s (terms_bound (variable_of v) ys)) (map-map (carry_term c) term_of a.terms)
            (subst (SameSet (map (carry_term c) (map term_of a.terms)))
            (sym (carry_terms c (variable_of v) r.0) ∙ ap (terms_bound (variable_of v)) (sym r.1))
            (carried_set c k q (map term_of a.terms) (terms_bound (variable_of v) r.0) (a.same r.0 r.2)));
      }

  -- by ending
  pub carried : (delivered : List Bindings) (e : Ending) (list : List ℕ) → Answer t p delivered e list → AnswerDecoded c t p delivered e list
  carried delivered (rows vs) list a = carried_rows delivered vs list a
  carried delivered (top n vs keys) list a = carried_best delivered n vs keys list a
  carried delivered (group vs m) list a = carried_group vs m list a
  carried delivered (registers v) list a = carried_registers v list a
