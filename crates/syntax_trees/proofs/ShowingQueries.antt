-- `read_shown`: a query, shown and read, has its words written.
use Prim.Native.Nat.{ℕ}
use mathlib.Core.Bool.{true}
use mathlib.Core.Path.{◌≡◌, refl, sym, ◌∙◌, ap}
use mathlib.Core.Option.{Option, none, some}
use mathlib.Core.List.{List, [], ◌∷◌, ◌++◌, append_assoc}
use lib.Dec.{T, ltb}
use Rattle.tokens.specs.Classes.{is_one_of}
use Rattle.syntax.specs.Kinds.{variable_kinds, objects, typed_operands, variable_token, name_token, whole_token, typed_whole_token, text_token}
use Rattle.syntax.specs.Kinds.{typed_text_token}
use Rattle.syntax.specs.Kinds.{distinct_word, from_word, graph_word, filter_word, year_token, brace_sign, unbrace_sign, opens_sign, closes_sign, star_sign}
use Rattle.syntax.specs.Kinds.{dot_sign}
use Rattle.syntax.specs.Kinds.{query_symbol, head_symbol, columns_symbol, more_columns_symbol, aggregate_symbol, dataset_symbol, year_symbol, from_where_symbol}
use Rattle.syntax.specs.Kinds.{whole_symbol, parts_symbol, unbrace_symbol, outer_brace_symbol, brace_symbol, dot_symbol, group_by_symbol}
use Rattle.syntax.specs.Kinds.{order_by_symbol, limits_symbol, end_symbol, column_node, from_node, open_node, graph_node}
use Rattle.syntax.specs.Cells.{shift}
use Rattle.syntax.specs.Grammar.{cell_of}
use Rattle.syntax.specs.Machine.{fed_to, word_kind, parsed, read}
use Rattle.syntax.specs.Trees.{Leaf, GroupPattern, empty, with_triple, with_filter, with_union}
use Rattle.syntax.specs.Trees.{Columns, everything, listed, Source, latest, of_year, every_year, Query}
use Rattle.syntax.specs.Shown.{type_shown, leaf_shown, constraint_shown, parts_words, parts_shown, union_shown}
use Rattle.syntax.specs.ShownQueries.{one_by_one, if_there, column_words, column_shown}
use Rattle.syntax.specs.ShownQueries.{columns_words, columns_shown, from_year_words, year_shown, graph_words, graph_shown}
use Rattle.syntax.specs.ShownQueries.{ending_words, ending_shown, query_words, query_shown}
use Rattle.syntax_trees.proofs.Reading.{AtKinds, at_kinds, NextReady, token_passes, leaf_taken, node_before, ready_cons, ready_after, behind, one_more_fact}
use Rattle.syntax_trees.proofs.ShowingGroups.{closing_follows, closing_taken, begins_brace, parts_read, in_braces}
use Rattle.syntax_trees.proofs.ShowingColumns.{variable_taken, column_read, columns_read}
use Rattle.syntax_trees.proofs.ShowingEndings.{ending_read}

-- ---- columns
module _ (s : ℕ) (h : ltb s 64 ≡ true) (a : AtKinds (λ k. cell_of s k ≡ shift true (column_node ∷ [])) (star_sign ∷ []))
    (p : AtKinds (λ k. cell_of s k ≡ shift true (column_node ∷ more_columns_symbol ∷ [])) variable_kinds)
    (q : AtKinds (λ k. cell_of s k ≡ shift true (aggregate_symbol ∷ more_columns_symbol ∷ [])) (opens_sign ∷ [])) where
  all_columns : (cs : Columns) (ys : List ℕ) → NextReady ys → ((st out : List ℕ) → parsed ys (more_columns_symbol ∷ st) out ≡ parsed ys st out)
      → (st out : List ℕ) → parsed (columns_shown cs ++ ys) (s ∷ st) out ≡ parsed ys st (out ++ columns_words cs)
  all_columns (everything x) ys r f st out =
      leaf_taken s h (column_node ∷ []) (star_sign ∷ []) a x ys st out
      ∙ r column_node st (out ++ (x.token ∷ [])) refl
      ∙ ap (parsed ys st) (one_more_fact out x.token (column_node ∷ []))
  all_columns (listed c l) ys r f st out =
      ap (λ z. parsed z (s ∷ st) out) (append_assoc (column_shown c) (one_by_one column_shown l) ys)
      ∙ column_read s h p q c (one_by_one column_shown l ++ ys) (ready_after (one_by_one column_shown l) ys r) st out
      ∙ columns_read l ys r st (out ++ column_words c)
      ∙ f st ((out ++ column_words c) ++ one_by_one column_words l)
      ∙ ap (parsed ys st) (append_assoc out (column_words c) (one_by_one column_words l))

select_read : (d : Option (Leaf (distinct_word ∷ []))) (cs : Columns) (ys : List ℕ) → NextReady ys
    → ((st out : List ℕ) → parsed ys (more_columns_symbol ∷ st) out ≡ parsed ys st out) → (st : List ℕ)
    → parsed (if_there (λ x. x.token ∷ []) d ++ (columns_shown cs ++ ys)) (head_symbol ∷ st) []
    ≡ parsed ys st (if_there (λ x. x.token ∷ []) d ++ columns_words cs)
unfolding cell_of
select_read none cs ys r f st = all_columns head_symbol refl (refl, tt) (refl, tt) (refl, tt) cs ys r f st []
select_read (some d) cs ys r f st =
    leaf_taken head_symbol refl (columns_symbol ∷ []) (distinct_word ∷ []) (refl, tt) d (columns_shown cs ++ ys) st []
    ∙ all_columns columns_symbol refl (refl, tt) (refl, tt) (refl, tt) cs ys r f st (d.token ∷ [])

-- ---- the pattern: its first token, where GRAPH may stand too
abbrev first_kinds : List ℕ
first_kinds =
    variable_token ∷ name_token ∷ whole_token ∷ typed_whole_token ∷ text_token ∷ typed_text_token ∷ filter_word ∷ brace_sign ∷ unbrace_sign ∷ []

AsParts : ℕ → Type 0
AsParts k = (t : ℕ) (xs st out : List ℕ) → word_kind t ≡ k
    → parsed (t ∷ xs) (whole_symbol ∷ st) out ≡ parsed (t ∷ xs) (parts_symbol ∷ unbrace_symbol ∷ st) out

as_parts : AtKinds AsParts first_kinds
unfolding AsParts parsed fed_to cell_of
as_parts = (
  (λ t xs st out e. rw e),
  (
    (λ t xs st out e. rw e),
    (
      (λ t xs st out e. rw e),
      (
        (λ t xs st out e. rw e),
        (
          (λ t xs st out e. rw e),
          (
            (λ t xs st out e. rw e),
            ((λ t xs st out e. rw e), ((λ t xs st out e. rw e), ((λ t xs st out e. rw e), tt))),
          ),
        ),
      ),
    ),
  ),
)

record Starts (ys : List ℕ) : Type 0 where
  first : ℕ
  others : List ℕ
  is : ys ≡ first ∷ others
  fits : T (is_one_of first_kinds (word_kind first))

object_first : (a : Leaf objects) → T (is_one_of first_kinds (word_kind a.token))
object_first a = at_kinds (λ k. T (is_one_of first_kinds k)) objects (tt, (tt, (tt, (tt, (tt, (tt, tt)))))) (word_kind a.token) a.fits

filter_first : (a : Leaf (filter_word ∷ [])) → T (is_one_of first_kinds (word_kind a.token))
filter_first a = at_kinds (λ k. T (is_one_of first_kinds k)) (filter_word ∷ []) (tt, tt) (word_kind a.token) a.fits

closing_first : (a : Leaf (unbrace_sign ∷ [])) → T (is_one_of first_kinds (word_kind a.token))
closing_first a = at_kinds (λ k. T (is_one_of first_kinds k)) (unbrace_sign ∷ []) (tt, tt) (word_kind a.token) a.fits

moved : (xs ys zs : List ℕ) → Starts (xs ++ (ys ++ zs)) → Starts ((xs ++ ys) ++ zs)
moved xs ys zs s = record { first = s.first; others = s.others; is = append_assoc xs ys zs ∙ s.is; fits = s.fits }

starts : (g : GroupPattern) (t : ℕ) (zs : List ℕ) → T (is_one_of first_kinds (word_kind t)) → Starts (parts_shown g ++ (t ∷ zs))
unfolding parts_shown
starts empty t zs h = record { first = t; others = zs; is = refl; fits = h }
starts (with_triple g a p o) t zs h =
    let rest = p.token ∷ (leaf_shown o.token ++ (dot_sign ∷ [])) in
    let type = type_shown (is_one_of typed_operands (word_kind a.token)) in
    moved (parts_shown g) (leaf_shown a.token ++ rest) (t ∷ zs) (starts g a.token ((type ++ rest) ++ (t ∷ zs)) (object_first a))
starts (with_filter g w e) t zs h =
    let rest = opens_sign ∷ (constraint_shown e ++ (closes_sign ∷ [])) in
    moved (parts_shown g) (w.token ∷ rest) (t ∷ zs) (starts g w.token (rest ++ (t ∷ zs)) (filter_first w))
starts (with_union g u) t zs h =
    let b = begins_brace u in
    let s = starts g brace_sign (b.tail ++ (t ∷ zs)) tt in
    moved (parts_shown g) (union_shown u) (t ∷ zs)
    (record { first = s.first; others = s.others; is = ap (λ l. parts_shown g ++ (l ++ (t ∷ zs))) b.is ∙ s.is; fits = s.fits })

whole_as_parts : (ys : List ℕ) → Starts ys → (st out : List ℕ) → parsed ys (whole_symbol ∷ st) out
    ≡ parsed ys (parts_symbol ∷ unbrace_symbol ∷ st) out
unfolding AsParts
whole_as_parts ys s st out =
    ap (λ l. parsed l (whole_symbol ∷ st) out) s.is
    ∙ at_kinds AsParts first_kinds as_parts (word_kind s.first) s.fits s.first s.others st out refl
    ∙ ap (λ l. parsed l (parts_symbol ∷ unbrace_symbol ∷ st) out) (sym s.is)

-- ---- the pattern with its source
module _ (g : GroupPattern) (c : Leaf (unbrace_sign ∷ [])) (zs st : List ℕ) where
  abbrev inside : List ℕ
  inside = parts_shown g ++ (c.token ∷ [])

  plain_read : (out : List ℕ) → parsed (brace_sign ∷ (inside ++ zs)) (dataset_symbol ∷ st) out
      ≡ parsed zs st (out ++ (open_node ∷ (parts_words g ++ (c.token ∷ []))))
  unfolding parsed fed_to cell_of
  plain_read out =
      let o1 = out ++ (open_node ∷ []) in
      behind (parts_shown g) (c.token ∷ []) zs (open_node ∷ whole_symbol ∷ st) out
      ∙ node_before open_node (parts_shown g) c.token zs (whole_symbol ∷ st) out refl
      ∙ whole_as_parts (parts_shown g ++ (c.token ∷ zs)) (starts g c.token zs (closing_first c)) st o1
      ∙ parts_read g c.token zs (unbrace_symbol ∷ st) o1 (closing_follows c)
      ∙ closing_taken c zs st (o1 ++ parts_words g)
      ∙ ap (parsed zs st) (append_assoc o1 (parts_words g) (c.token ∷ []) ∙ one_more_fact out open_node (parts_words g ++ (c.token ∷ [])))

  year_read_lem : (y : Leaf (year_token ∷ [])) (out : List ℕ)
      → parsed (from_word ∷ y.token ∷ brace_sign ∷ (inside ++ zs)) (dataset_symbol ∷ st) out
      ≡ parsed zs st (out ++ (y.token ∷ from_node ∷ open_node ∷ (parts_words g ++ (c.token ∷ []))))
  unfolding parsed fed_to cell_of
  year_read_lem y out =
      let o1 = out ++ (y.token ∷ []) in
      leaf_taken year_symbol refl [] (year_token ∷ []) (refl, tt) y (brace_sign ∷ (inside ++ zs)) (from_node ∷ from_where_symbol ∷ st) out
      ∙ in_braces (parts_shown g) (parts_words g) (parts_read g) c zs st (o1 ++ (from_node ∷ []))
      ∙ ap (parsed zs st)
      (one_more_fact o1 from_node (open_node ∷ (parts_words g ++ (c.token ∷ [])))
      ∙ one_more_fact out y.token (from_node ∷ open_node ∷ (parts_words g ++ (c.token ∷ []))))

  graph_read : (v : Leaf variable_kinds) (out : List ℕ)
      → parsed (brace_sign ∷ graph_word ∷ v.token ∷ brace_sign ∷ ((inside ++ (unbrace_sign ∷ [])) ++ zs)) (dataset_symbol ∷ st) out
      ≡ parsed zs st (out ++ (open_node ∷ v.token ∷ graph_node ∷ (parts_words g ++ (c.token ∷ []))))
  unfolding parsed fed_to cell_of
  graph_read v out =
      let o1 = out ++ (open_node ∷ []) in
      let o2 = (o1 ++ (v.token ∷ [])) ++ (graph_node ∷ []) in
      let rest = dot_symbol ∷ outer_brace_symbol ∷ st in
      variable_taken v (brace_sign ∷ ((inside ++ (unbrace_sign ∷ [])) ++ zs)) (graph_node ∷ brace_symbol ∷ parts_symbol ∷ unbrace_symbol ∷ rest) o1
      ∙ behind inside (unbrace_sign ∷ []) zs (parts_symbol ∷ unbrace_symbol ∷ rest) o2
      ∙ behind (parts_shown g) (c.token ∷ []) (unbrace_sign ∷ zs) (parts_symbol ∷ unbrace_symbol ∷ rest) o2
      ∙ parts_read g c.token (unbrace_sign ∷ zs) (unbrace_symbol ∷ rest) o2 (closing_follows c)
      ∙ closing_taken c (unbrace_sign ∷ zs) rest (o2 ++ parts_words g)
      ∙ ap (parsed zs st)
      (append_assoc o2 (parts_words g) (c.token ∷ [])
      ∙ one_more_fact (o1 ++ (v.token ∷ [])) graph_node (parts_words g ++ (c.token ∷ []))
      ∙ one_more_fact o1 v.token (graph_node ∷ (parts_words g ++ (c.token ∷ [])))
      ∙ one_more_fact out open_node (v.token ∷ graph_node ∷ (parts_words g ++ (c.token ∷ []))))

  abbrev from_source : Source → List ℕ
  from_source s = year_shown s ++ (brace_sign ∷ (graph_shown s inside ++ zs))

  source_read : (s : Source) (out : List ℕ)
      → parsed (from_source s) (dataset_symbol ∷ st) out
      ≡ parsed zs st (out ++ (from_year_words s ++ (open_node ∷ (graph_words s ++ (parts_words g ++ (c.token ∷ []))))))
  source_read latest out = plain_read out
  source_read (of_year y) out = year_read_lem y out
  source_read (every_year v) out = graph_read v out

  source_passes : (s : Source) (rest out : List ℕ) → parsed (from_source s) (more_columns_symbol ∷ rest) out ≡ parsed (from_source s) rest out
  unfolding cell_of
  source_passes latest rest out = token_passes brace_sign (inside ++ zs) more_columns_symbol rest out refl refl
  source_passes (of_year y) rest out = token_passes from_word (y.token ∷ brace_sign ∷ (inside ++ zs)) more_columns_symbol rest out refl refl
  source_passes (every_year v) rest out =
      token_passes brace_sign (graph_word ∷ v.token ∷ brace_sign ∷ ((inside ++ (unbrace_sign ∷ [])) ++ zs)) more_columns_symbol rest out refl refl

  source_ready : (s : Source) → NextReady (from_source s)
  source_ready s = ready_after (year_shown s) (brace_sign ∷ (graph_shown s inside ++ zs)) (ready_cons brace_sign (graph_shown s inside ++ zs))

-- every query
pub query_read : (q : Query) → parsed (query_shown q) (query_symbol ∷ []) [] ≡ read (query_words q)
unfolding parsed fed_to cell_of
query_read q =
    let zs = ending_shown q in
    let st = group_by_symbol ∷ order_by_symbol ∷ limits_symbol ∷ end_symbol ∷ [] in
    let g = q.pattern in
    let c = q.closing in
    let s = q.source in
    let d = if_there (λ x. x.token ∷ []) q.distinct in
    let w = from_year_words s ++ (open_node ∷ (graph_words s ++ (parts_words g ++ (c.token ∷ [])))) in
    select_read q.distinct q.columns (from_source g c zs st s) (source_ready g c zs st s) (source_passes g c zs st s) (dataset_symbol ∷ st)
    ∙ source_read g c zs st s (d ++ columns_words q.columns)
    ∙ ending_read q.grouping q.sort_keys q.limit q.offset ((d ++ columns_words q.columns) ++ w)
    ∙ ap read
    (append_assoc (d ++ columns_words q.columns) w (ending_words q)
    ∙ append_assoc d (columns_words q.columns) (w ++ ending_words q)
    ∙ ap (λ z. d ++ (columns_words q.columns ++ z))
    (append_assoc (from_year_words s) (open_node ∷ (graph_words s ++ (parts_words g ++ (c.token ∷ [])))) (ending_words q)
    ∙ ap (λ z. from_year_words s ++ (open_node ∷ z))
    (append_assoc (graph_words s) (parts_words g ++ (c.token ∷ [])) (ending_words q)
    ∙ ap (λ z. graph_words s ++ z) (append_assoc (parts_words g) (c.token ∷ []) (ending_words q)))))
