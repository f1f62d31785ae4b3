-- What stands behind the pattern, shown and read, has its words written.
use Prim.Native.Nat.{ℕ}
use mathlib.Core.Bool.{true}
use mathlib.Core.Path.{◌≡◌, refl, sym, ◌∙◌, ap}
use mathlib.Core.Option.{Option, none, some}
use mathlib.Core.List.{List, [], ◌∷◌, ◌++◌, append_assoc, append-nil}
use lib.Dec.{ltb}
use Rattle.syntax.specs.Kinds.{variable_kinds, count_token, grouping_word, by_word, order_word, limit_word, offset_word, end_token}
use Rattle.syntax.specs.Kinds.{by_symbol, group_by_symbol, group_name_symbol, more_names_symbol, order_by_symbol, key_symbol, more_keys_symbol, limits_symbol}
use Rattle.syntax.specs.Kinds.{offset_symbol, limit_symbol, number_symbol, end_symbol, by_node, limit_node, offset_node}
use Rattle.syntax.specs.Cells.{pass}
use Rattle.syntax.specs.Grammar.{cell_of}
use Rattle.syntax.specs.Machine.{fed_to, parsed, read}
use Rattle.syntax.specs.Trees.{Leaf, Grouping, ungrouped, grouped, SortKey}
use Rattle.syntax.specs.ShownQueries.{one_by_one, if_there, group_name_words, name_shown, grouping_words, grouping_shown, key_words, key_shown, keys_shown}
use Rattle.syntax_trees.proofs.Reading.{NextReady, token_passes, leaf_taken, ready_cons, ready_after, one_more_fact}
use Rattle.syntax_trees.proofs.ShowingColumns.{names_read, key_read, keys_read}

abbrev Number : Type 0
Number = Option (Leaf (count_token ∷ []))

-- ---- the tokens from OFFSET, LIMIT and ORDER on
abbrev from_offset : Number → List ℕ
from_offset o = if_there (λ n. offset_word ∷ n.token ∷ []) o ++ (end_token ∷ [])

abbrev from_limit : Number → Number → List ℕ
from_limit l o = if_there (λ n. limit_word ∷ n.token ∷ []) l ++ from_offset o

abbrev from_order : List SortKey → Number → Number → List ℕ
from_order ks l o = keys_shown ks ++ from_limit l o

abbrev offset_words : Number → List ℕ
offset_words o = if_there (λ n. n.token ∷ offset_node ∷ []) o

abbrev limit_words : Number → List ℕ
limit_words l = if_there (λ n. n.token ∷ limit_node ∷ []) l

ready_offset : (o : Number) → NextReady (from_offset o)
ready_offset o = ready_after (if_there (λ n. offset_word ∷ n.token ∷ []) o) (end_token ∷ []) (ready_cons end_token [])

ready_limit : (l o : Number) → NextReady (from_limit l o)
ready_limit l o = ready_after (if_there (λ n. limit_word ∷ n.token ∷ []) l) (from_offset o) (ready_offset o)

pub ready_order : (ks : List SortKey) (l o : Number) → NextReady (from_order ks l o)
ready_order ks l o = ready_after (keys_shown ks) (from_limit l o) (ready_limit l o)

number_taken : (n : Leaf (count_token ∷ [])) (xs st out : List ℕ) → parsed (n.token ∷ xs) (number_symbol ∷ st) out
    ≡ parsed xs st (out ++ (n.token ∷ []))
unfolding cell_of
number_taken n xs st out = leaf_taken number_symbol refl [] (count_token ∷ []) (refl, tt) n xs st out

-- ---- OFFSET behind LIMIT, OFFSET alone, LIMIT
offset_read : (o : Number) (out : List ℕ) → parsed (from_offset o) (offset_symbol ∷ end_symbol ∷ []) out ≡ read (out ++ offset_words o)
unfolding parsed fed_to cell_of
offset_read none out = ap read (sym (append-nil out))
offset_read (some n) out =
    number_taken n (end_token ∷ []) (offset_node ∷ end_symbol ∷ []) out ∙ ap read (one_more_fact out n.token (offset_node ∷ []))

offset_alone : (o : Number) (out : List ℕ) → parsed (from_offset o) (limits_symbol ∷ end_symbol ∷ []) out ≡ read (out ++ offset_words o)
unfolding parsed fed_to cell_of
offset_alone none out = ap read (sym (append-nil out))
offset_alone (some n) out =
    number_taken n (end_token ∷ []) (offset_node ∷ limit_symbol ∷ end_symbol ∷ []) out ∙ ap read (one_more_fact out n.token (offset_node ∷ []))

limit_read : (l o : Number) (out : List ℕ) → parsed (from_limit l o) (limits_symbol ∷ end_symbol ∷ []) out
    ≡ read (out ++ (limit_words l ++ offset_words o))
unfolding parsed fed_to cell_of
limit_read none o out = offset_alone o out
limit_read (some n) o out =
    number_taken n (from_offset o) (limit_node ∷ offset_symbol ∷ end_symbol ∷ []) out
    ∙ ready_offset o limit_node (offset_symbol ∷ end_symbol ∷ []) (out ++ (n.token ∷ [])) refl
    ∙ offset_read o ((out ++ (n.token ∷ [])) ++ (limit_node ∷ []))
    ∙ ap read (one_more_fact (out ++ (n.token ∷ [])) limit_node (offset_words o) ∙ one_more_fact out n.token (limit_node ∷ offset_words o))

-- ---- a symbol that passes
module _ (s : ℕ) (h : ltb s 64 ≡ true) (a : cell_of s limit_word ≡ pass) (b : cell_of s offset_word ≡ pass) (c : cell_of s end_token ≡ pass) where
  passes_limit : (l o : Number) (st out : List ℕ) → parsed (from_limit l o) (s ∷ st) out ≡ parsed (from_limit l o) st out
  passes_limit (some n) o st out = token_passes limit_word (n.token ∷ from_offset o) s st out h a
  passes_limit none (some n) st out = token_passes offset_word (n.token ∷ end_token ∷ []) s st out h b
  passes_limit none none st out = token_passes end_token [] s st out h c

  passes_order : cell_of s order_word ≡ pass → (ks : List SortKey) (l o : Number) (st out : List ℕ)
      → parsed (from_order ks l o) (s ∷ st) out ≡ parsed (from_order ks l o) st out
  passes_order d [] l o st out = passes_limit l o st out
  passes_order d (k ∷ ks) l o st out = token_passes order_word (by_word ∷ ((key_shown k ++ one_by_one key_shown ks) ++ from_limit l o)) s st out h d

-- ---- ORDER BY
order_read : (ks : List SortKey) (l o : Number) (out : List ℕ)
    → parsed (from_order ks l o) (order_by_symbol ∷ limits_symbol ∷ end_symbol ∷ []) out
    ≡ read (out ++ (one_by_one key_words ks ++ (limit_words l ++ offset_words o)))
unfolding parsed fed_to cell_of
order_read [] l o out =
    passes_limit order_by_symbol refl refl refl refl l o (limits_symbol ∷ end_symbol ∷ []) out ∙ limit_read l o out
order_read (k ∷ ks) l o out =
    let rest = limits_symbol ∷ end_symbol ∷ [] in
    let ys = from_limit l o in
    ap (λ z. parsed z (key_symbol ∷ more_keys_symbol ∷ rest) out) (append_assoc (key_shown k) (one_by_one key_shown ks) ys)
    ∙ key_read key_symbol refl [] (refl, tt) (refl, (refl, tt)) k (one_by_one key_shown ks ++ ys) (ready_after (one_by_one key_shown ks) ys (ready_limit l o))
    (more_keys_symbol ∷ rest) out
    ∙ keys_read ks ys (ready_limit l o) rest (out ++ key_words k)
    ∙ passes_limit more_keys_symbol refl refl refl refl l o rest ((out ++ key_words k) ++ one_by_one key_words ks)
    ∙ limit_read l o ((out ++ key_words k) ++ one_by_one key_words ks)
    ∙ ap read
    (append_assoc (out ++ key_words k) (one_by_one key_words ks) (limit_words l ++ offset_words o)
    ∙ append_assoc out (key_words k) (one_by_one key_words ks ++ (limit_words l ++ offset_words o))
    ∙ ap (λ z. out ++ z) (sym (append_assoc (key_words k) (one_by_one key_words ks) (limit_words l ++ offset_words o))))

-- ---- GROUP BY, and all
pub ending_read : (y : Grouping) (ks : List SortKey) (l o : Number) (out : List ℕ)
    → parsed (grouping_shown y ++ from_order ks l o) (group_by_symbol ∷ order_by_symbol ∷ limits_symbol ∷ end_symbol ∷ []) out
    ≡ read (out ++ (grouping_words y ++ (one_by_one key_words ks ++ (limit_words l ++ offset_words o))))
unfolding parsed fed_to cell_of
ending_read ungrouped ks l o out =
    passes_order group_by_symbol refl refl refl refl refl ks l o (order_by_symbol ∷ limits_symbol ∷ end_symbol ∷ []) out ∙ order_read ks l o out
ending_read (grouped w v names) ks l o out =
    let rest = order_by_symbol ∷ limits_symbol ∷ end_symbol ∷ [] in
    let ys = from_order ks l o in
    let r = ready_order ks l o in
    let o1 = out ++ (w.token ∷ []) in
    let o2 = (o1 ++ (v.token ∷ [])) ++ (by_node ∷ []) in
    let more = one_by_one key_words ks ++ (limit_words l ++ offset_words o) in
    leaf_taken group_by_symbol refl (by_symbol ∷ group_name_symbol ∷ more_names_symbol ∷ []) (grouping_word ∷ []) (refl, tt) w
    (by_word ∷ v.token ∷ (one_by_one name_shown names ++ ys)) rest out
    ∙ leaf_taken group_name_symbol refl (by_node ∷ []) variable_kinds (refl, tt) v (one_by_one name_shown names ++ ys) (more_names_symbol ∷ rest) o1
    ∙ ready_after (one_by_one name_shown names) ys r by_node (more_names_symbol ∷ rest) (o1 ++ (v.token ∷ [])) refl
    ∙ names_read names ys r rest o2
    ∙ passes_order more_names_symbol refl refl refl refl refl ks l o rest (o2 ++ one_by_one group_name_words names)
    ∙ order_read ks l o (o2 ++ one_by_one group_name_words names)
    ∙ ap read
    (append_assoc o2 (one_by_one group_name_words names) more
    ∙ one_more_fact (o1 ++ (v.token ∷ [])) by_node (one_by_one group_name_words names ++ more)
    ∙ one_more_fact o1 v.token (by_node ∷ (one_by_one group_name_words names ++ more))
    ∙ one_more_fact out w.token (v.token ∷ by_node ∷ (one_by_one group_name_words names ++ more)))
