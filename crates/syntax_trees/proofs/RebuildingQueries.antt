-- `read_shown`: every query, shown as tokens and read, is that query again; `shown_once`: no two share their tokens.
use Prim.Native.Nat.{ℕ}
use mathlib.Core.Bool.{Bool, true, false, cond}
use mathlib.Core.Path.{◌≡◌, refl, sym, ◌∙◌, ap, subst}
use mathlib.Core.Option.{Option, none, some}
use mathlib.Core.List.{List, [], ◌∷◌, ◌++◌, append_assoc, append-nil}
use lib.Dec.{T}
use Rattle.tokens.specs.Classes.{is_one_of}
use Rattle.syntax.specs.Kinds.{variable_kinds, measures, countables, directions, distinct_word, count_word, grouping_word, year_token, count_token, star_sign}
use Rattle.syntax.specs.Kinds.{opens_sign, query_symbol, column_node, aggregate_node, count_distinct_node, from_node, open_node, graph_node}
use Rattle.syntax.specs.Kinds.{by_node, key_node, key_by_node, limit_node, offset_node}
use Rattle.syntax.specs.Machine.{word_kind, parsed, Parsed, read, fault}
use Rattle.syntax.specs.Trees.{Leaf, Constraint, GroupPattern, empty, GroupOrUnion, alone}
use Rattle.syntax.specs.Trees.{counted, counted_distinct, measured, Column, plain, aggregated, Columns, everything, listed}
use Rattle.syntax.specs.Trees.{Source, latest, of_year, every_year, Grouping, ungrouped, grouped, SortKey, plain_key, directed, Query}
use Rattle.syntax.specs.Shown.{parts_words}
use Rattle.syntax.specs.ShownQueries.{one_by_one, if_there, column_words, columns_words, from_year_words, graph_words, group_name_words, grouping_words}
use Rattle.syntax.specs.ShownQueries.{key_words}
use Rattle.syntax.specs.ShownQueries.{ending_words, query_words, query_shown}
use Rattle.syntax.specs.Outlines.{Outline, with_column, columns_from, grouping_from, query_by}
use Rattle.syntax.specs.Building.{Pending, nothing_yet, marks_distinct, marks_group, node_of_kind, tree_node, by_fit, if_fits, taken, built}
use Rattle.syntax.specs.Building.{query_of, query_tree}
use Rattle.syntax_trees.proofs.Reading.{AtKinds, at_kinds}
use Rattle.syntax_trees.proofs.Rebuilding.{leaf_fits, leaf_popped, pending, word_built, built_behind, leaf_built, closing_built, parts_built}
use Rattle.syntax_trees.proofs.ShowingQueries.{query_read}

-- ---- a token of other kinds
not_fit : {A : Type 0} (ks : List ℕ) (t : ℕ) (b : Bool) (g : T b → T (is_one_of ks (word_kind t))) (f : Leaf ks → A) (d : A) → b ≡ false
    → by_fit ks t b g f d ≡ d
not_fit ks t true g f d e = absurd (subst (λ (x : Bool). cond x (Unit {0}) ⊥) e tt)
not_fit ks t false g f d e = refl

leaf_other : {A : Type 0} (ks js : List ℕ) → AtKinds (λ k. is_one_of js k ≡ false) ks → (a : Leaf ks) (f : Leaf js → A) (d : A)
    → if_fits js a.token f d ≡ d
unfolding if_fits
leaf_other ks js h a f d =
    not_fit js a.token (is_one_of js (word_kind a.token)) (λ x. x) f d (at_kinds (λ k. is_one_of js k ≡ false) ks h (word_kind a.token) a.fits)

-- ---- columns
module _ (ts : List ℕ) (cs : List Constraint) (gs : List GroupPattern) (us : List GroupOrUnion) (o : Outline) where
  column_built : (c : Column) (ws : List ℕ) → built (column_words c ++ ws) (pending ts cs gs us o) ≡ built ws (pending ts cs gs us (with_column c o))
  unfolding tree_node
  column_built (plain v) ws =
      leaf_built ts cs gs us o variable_kinds ((λ t. refl), tt) v (column_node ∷ ws)
      ∙ word_built column_node ws (pending (v.token ∷ ts) cs gs us o) (pending ts cs gs us (with_column (plain v) o)) (leaf_fits variable_kinds v _ _)
  column_built (aggregated b (counted c a) v) ws =
      leaf_built ts cs gs us o (opens_sign ∷ []) ((λ t. refl), tt) b (c.token ∷ a.token ∷ v.token ∷ aggregate_node ∷ ws)
      ∙ leaf_built (b.token ∷ ts) cs gs us o (count_word ∷ []) ((λ t. refl), tt) c (a.token ∷ v.token ∷ aggregate_node ∷ ws)
      ∙ leaf_built (c.token ∷ b.token ∷ ts) cs gs us o countables ((λ t. refl), ((λ t. refl), tt)) a (v.token ∷ aggregate_node ∷ ws)
      ∙ leaf_built (a.token ∷ c.token ∷ b.token ∷ ts) cs gs us o variable_kinds ((λ t. refl), tt) v (aggregate_node ∷ ws)
      ∙ word_built aggregate_node ws (pending (v.token ∷ a.token ∷ c.token ∷ b.token ∷ ts) cs gs us o)
      (pending ts cs gs us (with_column (aggregated b (counted c a) v) o))
      (leaf_popped variable_kinds v (a.token ∷ c.token ∷ b.token ∷ ts) _
      ∙ leaf_popped (opens_sign ∷ []) b ts _
      ∙ leaf_fits (count_word ∷ []) c _ _
      ∙ leaf_fits countables a _ _)
  column_built (aggregated b (counted_distinct c a) v) ws =
      leaf_built ts cs gs us o (opens_sign ∷ []) ((λ t. refl), tt) b (c.token ∷ a.token ∷ v.token ∷ count_distinct_node ∷ ws)
      ∙ leaf_built (b.token ∷ ts) cs gs us o (count_word ∷ []) ((λ t. refl), tt) c (a.token ∷ v.token ∷ count_distinct_node ∷ ws)
      ∙ leaf_built (c.token ∷ b.token ∷ ts) cs gs us o variable_kinds ((λ t. refl), tt) a (v.token ∷ count_distinct_node ∷ ws)
      ∙ leaf_built (a.token ∷ c.token ∷ b.token ∷ ts) cs gs us o variable_kinds ((λ t. refl), tt) v (count_distinct_node ∷ ws)
      ∙ word_built count_distinct_node ws (pending (v.token ∷ a.token ∷ c.token ∷ b.token ∷ ts) cs gs us o)
      (pending ts cs gs us (with_column (aggregated b (counted_distinct c a) v) o))
      (leaf_popped variable_kinds v (a.token ∷ c.token ∷ b.token ∷ ts) _
      ∙ leaf_popped variable_kinds a (c.token ∷ b.token ∷ ts) _
      ∙ leaf_popped (count_word ∷ []) c (b.token ∷ ts) _
      ∙ leaf_popped (opens_sign ∷ []) b ts _)
  column_built (aggregated b (measured c a) v) ws =
      leaf_built ts cs gs us o (opens_sign ∷ []) ((λ t. refl), tt) b (c.token ∷ a.token ∷ v.token ∷ aggregate_node ∷ ws)
      ∙ leaf_built (b.token ∷ ts) cs gs us o measures ((λ t. refl), ((λ t. refl), ((λ t. refl), ((λ t. refl), ((λ t. refl), tt))))) c
      (a.token ∷ v.token ∷ aggregate_node ∷ ws)
      ∙ leaf_built (c.token ∷ b.token ∷ ts) cs gs us o variable_kinds ((λ t. refl), tt) a (v.token ∷ aggregate_node ∷ ws)
      ∙ leaf_built (a.token ∷ c.token ∷ b.token ∷ ts) cs gs us o variable_kinds ((λ t. refl), tt) v (aggregate_node ∷ ws)
      ∙ word_built aggregate_node ws (pending (v.token ∷ a.token ∷ c.token ∷ b.token ∷ ts) cs gs us o)
      (pending ts cs gs us (with_column (aggregated b (measured c a) v) o))
      (leaf_popped variable_kinds v (a.token ∷ c.token ∷ b.token ∷ ts) _
      ∙ leaf_popped (opens_sign ∷ []) b ts _
      ∙ leaf_other measures (count_word ∷ []) (refl, (refl, (refl, (refl, (refl, tt))))) c _ _
      ∙ leaf_fits measures c _ _
      ∙ leaf_fits variable_kinds a _ _)

-- ---- the outline, by its parts
abbrev outlined : Option (Leaf (distinct_word ∷ [])) → Option (Leaf (star_sign ∷ [])) → List Column → Source → Option (Leaf (grouping_word ∷ []))
    → List (Leaf variable_kinds) → List SortKey → Option (Leaf (count_token ∷ [])) → Option (Leaf (count_token ∷ [])) → Outline
outlined d a cs s w ns ks l o =
    record {
      distinct_by = d;
      star_by = a;
      columns_by = cs;
      source_by = s;
      group_word_by = w;
      names_by = ns;
      keys_by = ks;
      limit_by = l;
      offset_by = o;
    }

abbrev star_of : Columns → Option (Leaf (star_sign ∷ []))
star_of (everything a) = some a
star_of (listed c l) = none

abbrev list_of : Columns → List Column
list_of (everything a) = []
list_of (listed c l) = c ∷ l

abbrev year_of : Source → Source
year_of latest = latest
year_of (of_year y) = of_year y
year_of (every_year v) = latest

abbrev word_of : Grouping → Option (Leaf (grouping_word ∷ []))
word_of ungrouped = none
word_of (grouped w v l) = some w

abbrev names_of : Grouping → List (Leaf variable_kinds)
names_of ungrouped = []
names_of (grouped w v l) = v ∷ l

columns_from_lem : (cs : Columns) → columns_from (star_of cs) (list_of cs) ≡ some cs
columns_from_lem (everything a) = refl
columns_from_lem (listed c l) = refl

grouping_from_lem : (y : Grouping) → grouping_from (word_of y) (names_of y) ≡ some y
grouping_from_lem ungrouped = refl
grouping_from_lem (grouped w v l) = refl

-- ---- up to the pattern
module _ (d : Option (Leaf (distinct_word ∷ []))) where
  abbrev before : Option (Leaf (star_sign ∷ [])) → List Column → Source → List GroupPattern → Pending
  before a cs s gs = pending [] [] gs [] (outlined d a cs s none [] [] none none)

  columns_built : (l cs : List Column) (ws : List ℕ) → built (one_by_one column_words l ++ ws) (before none cs latest [])
      ≡ built ws (before none (cs ++ l) latest [])
  columns_built [] cs ws = ap (λ z. built ws (before none z latest [])) (sym (append-nil cs))
  columns_built (c ∷ l) cs ws =
      built_behind (column_words c) (one_by_one column_words l) ws (before none cs latest [])
      ∙ column_built [] [] [] [] (outlined d none cs latest none [] [] none none) c (one_by_one column_words l ++ ws)
      ∙ columns_built l (cs ++ (c ∷ [])) ws
      ∙ ap (λ z. built ws (before none z latest [])) (append_assoc cs (c ∷ []) l)

  select_built : (cs : Columns) (ws : List ℕ) → built (columns_words cs ++ ws) (before none [] latest [])
      ≡ built ws (before (star_of cs) (list_of cs) latest [])
  unfolding tree_node
  select_built (everything a) ws =
      leaf_built [] [] [] [] (outlined d none [] latest none [] [] none none) (star_sign ∷ []) ((λ t. refl), tt) a (column_node ∷ ws)
      ∙ word_built column_node ws (pending (a.token ∷ []) [] [] [] (outlined d none [] latest none [] [] none none)) (before (some a) [] latest [])
      (leaf_other (star_sign ∷ []) variable_kinds (refl, tt) a _ _ ∙ leaf_fits (star_sign ∷ []) a _ _)
  select_built (listed c l) ws =
      built_behind (column_words c) (one_by_one column_words l) ws (before none [] latest [])
      ∙ column_built [] [] [] [] (outlined d none [] latest none [] [] none none) c (one_by_one column_words l ++ ws)
      ∙ columns_built l (c ∷ []) ws

  module _ (a : Option (Leaf (star_sign ∷ []))) (cs : List Column) where
    year_built : (s : Source) (ws : List ℕ) → built (from_year_words s ++ ws) (before a cs latest []) ≡ built ws (before a cs (year_of s) [])
    unfolding tree_node
    year_built latest ws = refl
    year_built (every_year v) ws = refl
    year_built (of_year y) ws =
        leaf_built [] [] [] [] (outlined d a cs latest none [] [] none none) (year_token ∷ []) ((λ t. refl), tt) y (from_node ∷ ws)
        ∙ word_built from_node ws (pending (y.token ∷ []) [] [] [] (outlined d a cs latest none [] [] none none)) (before a cs (of_year y) [])
        (leaf_popped (year_token ∷ []) y [] _)

    graph_built : (s : Source) (ws : List ℕ) → built (graph_words s ++ ws) (before a cs (year_of s) (empty ∷ []))
        ≡ built ws (before a cs s (empty ∷ []))
    unfolding tree_node
    graph_built latest ws = refl
    graph_built (of_year y) ws = refl
    graph_built (every_year v) ws =
        leaf_built [] [] (empty ∷ []) [] (outlined d a cs latest none [] [] none none) variable_kinds ((λ t. refl), tt) v (graph_node ∷ ws)
        ∙ word_built graph_node ws (pending (v.token ∷ []) [] (empty ∷ []) [] (outlined d a cs latest none [] [] none none))
        (before a cs (every_year v) (empty ∷ [])) (leaf_popped variable_kinds v [] _)

-- ---- behind the pattern
module _ (u : List GroupOrUnion) (d : Option (Leaf (distinct_word ∷ []))) (a : Option (Leaf (star_sign ∷ []))) (cs : List Column) (s : Source) where
  abbrev after : Option (Leaf (grouping_word ∷ [])) → List (Leaf variable_kinds) → List SortKey → Option (Leaf (count_token ∷ []))
      → Option (Leaf (count_token ∷ [])) → Pending
  after w ns ks l o = pending [] [] [] u (outlined d a cs s w ns ks l o)

  name_built : (w : Option (Leaf (grouping_word ∷ []))) (ns : List (Leaf variable_kinds)) (v : Leaf variable_kinds) (ws : List ℕ)
      → built (group_name_words v ++ ws) (after w ns [] none none) ≡ built ws (after w (ns ++ (v ∷ [])) [] none none)
  unfolding tree_node
  name_built w ns v ws =
      leaf_built [] [] [] u (outlined d a cs s w ns [] none none) variable_kinds ((λ t. refl), tt) v (by_node ∷ ws)
      ∙ word_built by_node ws (pending (v.token ∷ []) [] [] u (outlined d a cs s w ns [] none none)) (after w (ns ++ (v ∷ [])) [] none none)
      (leaf_popped variable_kinds v [] _)

  names_built : (l ns : List (Leaf variable_kinds)) (w : Option (Leaf (grouping_word ∷ []))) (ws : List ℕ)
      → built (one_by_one group_name_words l ++ ws) (after w ns [] none none) ≡ built ws (after w (ns ++ l) [] none none)
  names_built [] ns w ws = ap (λ z. built ws (after w z [] none none)) (sym (append-nil ns))
  names_built (v ∷ l) ns w ws =
      name_built w ns v (one_by_one group_name_words l ++ ws)
      ∙ names_built l (ns ++ (v ∷ [])) w ws
      ∙ ap (λ z. built ws (after w z [] none none)) (append_assoc ns (v ∷ []) l)

  grouping_built : (y : Grouping) (ws : List ℕ) → built (grouping_words y ++ ws) (after none [] [] none none)
      ≡ built ws (after (word_of y) (names_of y) [] none none)
  unfolding tree_node
  grouping_built ungrouped ws = refl
  grouping_built (grouped w v l) ws =
      word_built w.token (v.token ∷ by_node ∷ (one_by_one group_name_words l ++ ws)) (after none [] [] none none) (after (some w) [] [] none none)
      (ap (λ n. taken n (after none [] [] none none))
      (at_kinds (λ k. (t : ℕ) → node_of_kind k t ≡ marks_group t) (grouping_word ∷ []) ((λ t. refl), tt) (word_kind w.token) w.fits w.token)
      ∙ leaf_fits (grouping_word ∷ []) w _ _)
      ∙ name_built (some w) [] v (one_by_one group_name_words l ++ ws)
      ∙ names_built l (v ∷ []) (some w) ws

  module _ (w : Option (Leaf (grouping_word ∷ []))) (ns : List (Leaf variable_kinds)) where
    key_built : (k : SortKey) (ks : List SortKey) (ws : List ℕ)
        → built (key_words k ++ ws) (after w ns ks none none) ≡ built ws (after w ns (ks ++ (k ∷ [])) none none)
    unfolding tree_node
    key_built (plain_key v) ks ws =
        leaf_built [] [] [] u (outlined d a cs s w ns ks none none) variable_kinds ((λ t. refl), tt) v (key_node ∷ ws)
        ∙ word_built key_node ws (pending (v.token ∷ []) [] [] u (outlined d a cs s w ns ks none none)) (after w ns (ks ++ (plain_key v ∷ [])) none none)
        (leaf_popped variable_kinds v [] _)
    key_built (directed e v) ks ws =
        leaf_built [] [] [] u (outlined d a cs s w ns ks none none) directions ((λ t. refl), ((λ t. refl), tt)) e (v.token ∷ key_by_node ∷ ws)
        ∙ leaf_built (e.token ∷ []) [] [] u (outlined d a cs s w ns ks none none) variable_kinds ((λ t. refl), tt) v (key_by_node ∷ ws)
        ∙ word_built key_by_node ws (pending (v.token ∷ e.token ∷ []) [] [] u (outlined d a cs s w ns ks none none))
        (after w ns (ks ++ (directed e v ∷ [])) none none) (leaf_popped variable_kinds v (e.token ∷ []) _ ∙ leaf_popped directions e [] _)

    keys_built : (l ks : List SortKey) (ws : List ℕ) → built (one_by_one key_words l ++ ws) (after w ns ks none none)
        ≡ built ws (after w ns (ks ++ l) none none)
    keys_built [] ks ws = ap (λ z. built ws (after w ns z none none)) (sym (append-nil ks))
    keys_built (k ∷ l) ks ws =
        built_behind (key_words k) (one_by_one key_words l) ws (after w ns ks none none)
        ∙ key_built k ks (one_by_one key_words l ++ ws)
        ∙ keys_built l (ks ++ (k ∷ [])) ws
        ∙ ap (λ z. built ws (after w ns z none none)) (append_assoc ks (k ∷ []) l)

    module _ (ks : List SortKey) where
      limit_built : (l : Option (Leaf (count_token ∷ []))) (ws : List ℕ)
          → built (if_there (λ n. n.token ∷ limit_node ∷ []) l ++ ws) (after w ns ks none none) ≡ built ws (after w ns ks l none)
      unfolding tree_node
      limit_built none ws = refl
      limit_built (some n) ws =
          leaf_built [] [] [] u (outlined d a cs s w ns ks none none) (count_token ∷ []) ((λ t. refl), tt) n (limit_node ∷ ws)
          ∙ word_built limit_node ws (pending (n.token ∷ []) [] [] u (outlined d a cs s w ns ks none none)) (after w ns ks (some n) none)
          (leaf_popped (count_token ∷ []) n [] _)

      offset_built : (l o : Option (Leaf (count_token ∷ [])))
          → built (if_there (λ n. n.token ∷ offset_node ∷ []) o) (after w ns ks l none) ≡ some (after w ns ks l o)
      unfolding built tree_node
      offset_built l none = refl
      offset_built l (some n) =
          leaf_built [] [] [] u (outlined d a cs s w ns ks l none) (count_token ∷ []) ((λ t. refl), tt) n (offset_node ∷ [])
          ∙ word_built offset_node [] (pending (n.token ∷ []) [] [] u (outlined d a cs s w ns ks l none)) (after w ns ks l (some n))
          (leaf_popped (count_token ∷ []) n [] _)

distinct_built : (d : Option (Leaf (distinct_word ∷ []))) (ws : List ℕ)
    → built (if_there (λ x. x.token ∷ []) d ++ ws) nothing_yet ≡ built ws (before d none [] latest [])
unfolding tree_node
distinct_built none ws = refl
distinct_built (some x) ws =
    word_built x.token ws nothing_yet (before (some x) none [] latest [])
    (ap (λ n. taken n nothing_yet)
    (at_kinds (λ k. (t : ℕ) → node_of_kind k t ≡ marks_distinct t) (distinct_word ∷ []) ((λ t. refl), tt) (word_kind x.token) x.fits x.token)
    ∙ leaf_fits (distinct_word ∷ []) x _ _)

-- the words of a query are built to that query
pub words_tree : (q : Query) → query_tree (query_words q) ≡ some q
unfolding built tree_node
words_tree q =
    let d = q.distinct in
    let a = star_of q.columns in
    let cs = list_of q.columns in
    let s = q.source in
    let g = q.pattern in
    let c = q.closing in
    let y = q.grouping in
    let e = ending_words q in
    let w3 = graph_words s ++ (parts_words g ++ (c.token ∷ e)) in
    let w2 = from_year_words s ++ (open_node ∷ w3) in
    let u = alone g c ∷ [] in
    let w4 = if_there (λ n. n.token ∷ offset_node ∷ []) q.offset in
    let w5 = if_there (λ n. n.token ∷ limit_node ∷ []) q.limit ++ w4 in
    ap query_of
    (distinct_built d (columns_words q.columns ++ w2)
    ∙ select_built d q.columns w2
    ∙ year_built d a cs s (open_node ∷ w3)
    ∙ graph_built d a cs s (parts_words g ++ (c.token ∷ e))
    ∙ parts_built g (c.token ∷ e) [] [] [] [] (outlined d a cs s none [] [] none none)
    ∙ closing_built [] [] [] [] (outlined d a cs s none [] [] none none) g c e
    ∙ grouping_built u d a cs s y (one_by_one key_words q.sort_keys ++ w5)
    ∙ keys_built u d a cs s (word_of y) (names_of y) q.sort_keys [] w5
    ∙ limit_built u d a cs s (word_of y) (names_of y) q.sort_keys q.limit w4
    ∙ offset_built u d a cs s (word_of y) (names_of y) q.sort_keys q.limit q.offset)
    ∙ ap (λ z. query_by (outlined d a cs s (word_of y) (names_of y) q.sort_keys q.limit q.offset) g c z (grouping_from (word_of y) (names_of y)))
    (columns_from_lem q.columns)
    ∙ ap (query_by (outlined d a cs s (word_of y) (names_of y) q.sort_keys q.limit q.offset) g c (some q.columns)) (grouping_from_lem y)

-- the tree of what is read, if anything is
abbrev pub read_tree : Parsed → Option Query
read_tree (read ws) = query_tree ws
read_tree (fault n t) = none

pub read_shown : (q : Query) → read_tree (parsed (query_shown q) (query_symbol ∷ []) []) ≡ some q
read_shown q = ap read_tree (query_read q) ∙ words_tree q

pub shown_once : (p q : Query) → query_shown p ≡ query_shown q → p ≡ q
shown_once p q e = same (sym (read_shown p) ∙ ap (λ l. read_tree (parsed l (query_symbol ∷ []) [])) e ∙ read_shown q)
  where
    or_else : Option Query → Query
    or_else none = p
    or_else (some x) = x

    same : some p ≡ some q → p ≡ q
    same h = ap or_else h
