-- Columns, the names of GROUP BY, keys of ORDER BY, LIMIT and OFFSET, shown and read, have their words written.
use Prim.Native.Nat.{ℕ}
use mathlib.Core.Path.{◌≡◌, refl, sym, ◌∙◌, ap}
use mathlib.Core.Bool.{true, false}
use mathlib.Core.List.{List, [], ◌∷◌, ◌++◌, append_assoc, append-nil}
use lib.Dec.{ltb}
use Rattle.syntax.specs.Kinds.{variable_kinds, measures, countables, directions, distinct_word, count_word}
use Rattle.syntax.specs.Kinds.{as_word, opens_sign, closes_sign}
use Rattle.syntax.specs.Kinds.{more_columns_symbol, aggregate_symbol, counted_symbol, variable_symbol, opens_symbol, closes_symbol}
use Rattle.syntax.specs.Kinds.{as_symbol, more_names_symbol, more_keys_symbol}
use Rattle.syntax.specs.Kinds.{column_node, aggregate_node, count_distinct_node, by_node, key_node, key_by_node}
use Rattle.syntax.specs.Cells.{shift}
use Rattle.syntax.specs.Grammar.{cell_of}
use Rattle.syntax.specs.Machine.{fed_to, parsed}
use Rattle.syntax.specs.Trees.{Leaf, counted, counted_distinct, measured, Column, plain, aggregated, SortKey, plain_key, directed}
use Rattle.syntax.specs.ShownQueries.{one_by_one, column_words, column_shown, group_name_words, name_shown, key_words, key_shown}
use Rattle.syntax_trees.proofs.Reading.{AtKinds, NextReady, leaf_taken, node_written, one_more_fact, ready_after}

-- five words, one after the other, and four and three and two
two_more_lem : (out : List ℕ) (a b : ℕ) → (out ++ (a ∷ [])) ++ (b ∷ []) ≡ out ++ (a ∷ b ∷ [])
two_more_lem out a b = one_more_fact out a (b ∷ [])

five_more : (out : List ℕ) (a b c d e : ℕ)
    → ((((out ++ (a ∷ [])) ++ (b ∷ [])) ++ (c ∷ [])) ++ (d ∷ [])) ++ (e ∷ []) ≡ out ++ (a ∷ b ∷ c ∷ d ∷ e ∷ [])
five_more out a b c d e =
    one_more_fact (((out ++ (a ∷ [])) ++ (b ∷ [])) ++ (c ∷ [])) d (e ∷ [])
    ∙ one_more_fact ((out ++ (a ∷ [])) ++ (b ∷ [])) c (d ∷ e ∷ [])
    ∙ one_more_fact (out ++ (a ∷ [])) b (c ∷ d ∷ e ∷ [])
    ∙ one_more_fact out a (b ∷ c ∷ d ∷ e ∷ [])

-- ---- tokens
pub variable_taken : (v : Leaf variable_kinds) (xs st out : List ℕ) → parsed (v.token ∷ xs) (variable_symbol ∷ st) out
    ≡ parsed xs st (out ++ (v.token ∷ []))
unfolding cell_of
variable_taken v xs st out = leaf_taken variable_symbol refl [] variable_kinds (refl, tt) v xs st out

-- AS, a name and a bracket
named : (n : ℕ) → ltb n 64 ≡ false → (v : Leaf variable_kinds) (xs st out : List ℕ)
    → parsed (closes_sign ∷ as_word ∷ v.token ∷ closes_sign ∷ xs) (closes_symbol ∷ as_symbol ∷ variable_symbol ∷ n ∷ closes_symbol ∷ st) out
    ≡ parsed xs st ((out ++ (v.token ∷ [])) ++ (n ∷ []))
unfolding parsed fed_to cell_of
named n h v xs st out =
    variable_taken v (closes_sign ∷ xs) (n ∷ closes_symbol ∷ st) out ∙ node_written closes_sign xs n (closes_symbol ∷ st) (out ++ (v.token ∷ [])) h

-- ---- a column, where the symbol s takes the first token of it
module _ (s : ℕ) (h : ltb s 64 ≡ true) (p : AtKinds (λ k. cell_of s k ≡ shift true (column_node ∷ more_columns_symbol ∷ [])) variable_kinds)
    (q : AtKinds (λ k. cell_of s k ≡ shift true (aggregate_symbol ∷ more_columns_symbol ∷ [])) (opens_sign ∷ [])) where
  pub column_read : (c : Column) (ys : List ℕ) → NextReady ys → (st out : List ℕ)
      → parsed (column_shown c ++ ys) (s ∷ st) out ≡ parsed ys (more_columns_symbol ∷ st) (out ++ column_words c)
  unfolding parsed fed_to cell_of
  column_read (plain v) ys r st out =
      leaf_taken s h (column_node ∷ more_columns_symbol ∷ []) variable_kinds p v ys st out
      ∙ r column_node (more_columns_symbol ∷ st) (out ++ (v.token ∷ [])) refl
      ∙ ap (parsed ys (more_columns_symbol ∷ st)) (two_more_lem out v.token column_node)
  column_read (aggregated b (counted c a) v) ys r st out =
      let o1 = out ++ (b.token ∷ []) in
      let o2 = o1 ++ (c.token ∷ []) in
      leaf_taken s h (aggregate_symbol ∷ more_columns_symbol ∷ []) (opens_sign ∷ []) q b
      (c.token ∷ opens_sign ∷ a.token ∷ closes_sign ∷ as_word ∷ v.token ∷ closes_sign ∷ ys) st out
      ∙ leaf_taken aggregate_symbol refl (opens_symbol ∷ counted_symbol ∷ []) (count_word ∷ []) (refl, tt) c
      (opens_sign ∷ a.token ∷ closes_sign ∷ as_word ∷ v.token ∷ closes_sign ∷ ys) (more_columns_symbol ∷ st) o1
      ∙ leaf_taken counted_symbol refl (closes_symbol ∷ as_symbol ∷ variable_symbol ∷ aggregate_node ∷ closes_symbol ∷ []) countables (refl, (refl, tt)) a
      (closes_sign ∷ as_word ∷ v.token ∷ closes_sign ∷ ys) (more_columns_symbol ∷ st) o2
      ∙ named aggregate_node refl v ys (more_columns_symbol ∷ st) (o2 ++ (a.token ∷ []))
      ∙ ap (parsed ys (more_columns_symbol ∷ st)) (five_more out b.token c.token a.token v.token aggregate_node)
  column_read (aggregated b (counted_distinct c a) v) ys r st out =
      let o1 = out ++ (b.token ∷ []) in
      let o2 = o1 ++ (c.token ∷ []) in
      leaf_taken s h (aggregate_symbol ∷ more_columns_symbol ∷ []) (opens_sign ∷ []) q b
      (c.token ∷ opens_sign ∷ distinct_word ∷ a.token ∷ closes_sign ∷ as_word ∷ v.token ∷ closes_sign ∷ ys) st out
      ∙ leaf_taken aggregate_symbol refl (opens_symbol ∷ counted_symbol ∷ []) (count_word ∷ []) (refl, tt) c
      (opens_sign ∷ distinct_word ∷ a.token ∷ closes_sign ∷ as_word ∷ v.token ∷ closes_sign ∷ ys) (more_columns_symbol ∷ st) o1
      ∙ variable_taken a (closes_sign ∷ as_word ∷ v.token ∷ closes_sign ∷ ys)
      (closes_symbol ∷ as_symbol ∷ variable_symbol ∷ count_distinct_node ∷ closes_symbol ∷ more_columns_symbol ∷ st) o2
      ∙ named count_distinct_node refl v ys (more_columns_symbol ∷ st) (o2 ++ (a.token ∷ []))
      ∙ ap (parsed ys (more_columns_symbol ∷ st)) (five_more out b.token c.token a.token v.token count_distinct_node)
  column_read (aggregated b (measured c a) v) ys r st out =
      let o1 = out ++ (b.token ∷ []) in
      let o2 = o1 ++ (c.token ∷ []) in
      let rest = closes_symbol ∷ as_symbol ∷ variable_symbol ∷ aggregate_node ∷ closes_symbol ∷ more_columns_symbol ∷ st in
      leaf_taken s h (aggregate_symbol ∷ more_columns_symbol ∷ []) (opens_sign ∷ []) q b
      (c.token ∷ opens_sign ∷ a.token ∷ closes_sign ∷ as_word ∷ v.token ∷ closes_sign ∷ ys) st out
      ∙ leaf_taken aggregate_symbol refl
      (opens_symbol ∷ variable_symbol ∷ closes_symbol ∷ as_symbol ∷ variable_symbol ∷ aggregate_node ∷ closes_symbol ∷ []) measures
      (refl, (refl, (refl, (refl, (refl, tt))))) c
      (opens_sign ∷ a.token ∷ closes_sign ∷ as_word ∷ v.token ∷ closes_sign ∷ ys) (more_columns_symbol ∷ st) o1
      ∙ variable_taken a (closes_sign ∷ as_word ∷ v.token ∷ closes_sign ∷ ys) rest o2
      ∙ named aggregate_node refl v ys (more_columns_symbol ∷ st) (o2 ++ (a.token ∷ []))
      ∙ ap (parsed ys (more_columns_symbol ∷ st)) (five_more out b.token c.token a.token v.token aggregate_node)

-- further columns
pub columns_read : (l : List Column) (ys : List ℕ) → NextReady ys → (st out : List ℕ)
    → parsed (one_by_one column_shown l ++ ys) (more_columns_symbol ∷ st) out ≡ parsed ys (more_columns_symbol ∷ st) (out ++ one_by_one column_words l)
unfolding cell_of
columns_read [] ys r st out = ap (parsed ys (more_columns_symbol ∷ st)) (sym (append-nil out))
columns_read (c ∷ l) ys r st out =
    ap (λ z. parsed z (more_columns_symbol ∷ st) out) (append_assoc (column_shown c) (one_by_one column_shown l) ys)
    ∙ column_read more_columns_symbol refl (refl, tt) (refl, tt) c (one_by_one column_shown l ++ ys) (ready_after (one_by_one column_shown l) ys r) st out
    ∙ columns_read l ys r st (out ++ column_words c)
    ∙ ap (parsed ys (more_columns_symbol ∷ st)) (append_assoc out (column_words c) (one_by_one column_words l))

-- ---- names of GROUP BY
pub names_read : (l : List (Leaf variable_kinds)) (ys : List ℕ) → NextReady ys → (st out : List ℕ)
    → parsed (one_by_one name_shown l ++ ys) (more_names_symbol ∷ st) out ≡ parsed ys (more_names_symbol ∷ st) (out ++ one_by_one group_name_words l)
unfolding cell_of
names_read [] ys r st out = ap (parsed ys (more_names_symbol ∷ st)) (sym (append-nil out))
names_read (v ∷ l) ys r st out =
    leaf_taken more_names_symbol refl (by_node ∷ more_names_symbol ∷ []) variable_kinds (refl, tt) v (one_by_one name_shown l ++ ys) st out
    ∙ ready_after (one_by_one name_shown l) ys r by_node (more_names_symbol ∷ st) (out ++ (v.token ∷ [])) refl
    ∙ names_read l ys r st ((out ++ (v.token ∷ [])) ++ (by_node ∷ []))
    ∙ ap (parsed ys (more_names_symbol ∷ st))
    (one_more_fact (out ++ (v.token ∷ [])) by_node (one_by_one group_name_words l) ∙ one_more_fact out v.token (by_node ∷ one_by_one group_name_words l))

-- ---- keys of ORDER BY, where the symbol s takes the first token and leaves m
module _ (s : ℕ) (h : ltb s 64 ≡ true) (m : List ℕ) (p : AtKinds (λ k. cell_of s k ≡ shift true (key_node ∷ m)) variable_kinds)
    (q : AtKinds (λ k. cell_of s k ≡ shift true (opens_symbol ∷ variable_symbol ∷ closes_symbol ∷ key_by_node ∷ m)) directions) where
  pub key_read : (c : SortKey) (ys : List ℕ) → NextReady ys → (st out : List ℕ)
      → parsed (key_shown c ++ ys) (s ∷ st) out ≡ parsed ys (m ++ st) (out ++ key_words c)
  unfolding parsed fed_to cell_of
  key_read (plain_key v) ys r st out =
      leaf_taken s h (key_node ∷ m) variable_kinds p v ys st out
      ∙ r key_node (m ++ st) (out ++ (v.token ∷ [])) refl
      ∙ ap (parsed ys (m ++ st)) (two_more_lem out v.token key_node)
  key_read (directed d v) ys r st out =
      leaf_taken s h (opens_symbol ∷ variable_symbol ∷ closes_symbol ∷ key_by_node ∷ m) directions q d (opens_sign ∷ v.token ∷ closes_sign ∷ ys) st out
      ∙ variable_taken v (closes_sign ∷ ys) (closes_symbol ∷ key_by_node ∷ (m ++ st)) (out ++ (d.token ∷ []))
      ∙ r key_by_node (m ++ st) ((out ++ (d.token ∷ [])) ++ (v.token ∷ [])) refl
      ∙ ap (parsed ys (m ++ st))
      (one_more_fact (out ++ (d.token ∷ [])) v.token (key_by_node ∷ []) ∙ one_more_fact out d.token (v.token ∷ key_by_node ∷ []))

pub keys_read : (l : List SortKey) (ys : List ℕ) → NextReady ys → (st out : List ℕ)
    → parsed (one_by_one key_shown l ++ ys) (more_keys_symbol ∷ st) out ≡ parsed ys (more_keys_symbol ∷ st) (out ++ one_by_one key_words l)
unfolding cell_of
keys_read [] ys r st out = ap (parsed ys (more_keys_symbol ∷ st)) (sym (append-nil out))
keys_read (c ∷ l) ys r st out =
    ap (λ z. parsed z (more_keys_symbol ∷ st) out) (append_assoc (key_shown c) (one_by_one key_shown l) ys)
    ∙ key_read more_keys_symbol refl (more_keys_symbol ∷ []) (refl, tt) (refl, (refl, tt)) c (one_by_one key_shown l ++ ys)
    (ready_after (one_by_one key_shown l) ys r) st out
    ∙ keys_read l ys r st (out ++ key_words c)
    ∙ ap (parsed ys (more_keys_symbol ∷ st)) (append_assoc out (key_words c) (one_by_one key_words l))
