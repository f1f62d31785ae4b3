-- A group, shown and read, has its words written.
use Prim.Native.Nat.{ℕ}
use mathlib.Core.Path.{◌≡◌, refl, sym, ◌∙◌, ap}
use mathlib.Core.List.{List, [], ◌∷◌, ◌++◌, append_assoc, append-nil}
use Rattle.tokens.specs.Classes.{is_one_of}
use Rattle.syntax.specs.Kinds.{typed_operands, objects, verbs, filter_word, union_word, brace_sign, unbrace_sign, opens_sign, closes_sign, dot_sign}
use Rattle.syntax.specs.Kinds.{parts_symbol, unbrace_symbol, after_triples_symbol, dot_symbol, more_union_symbol, verb_symbol, object_symbol}
use Rattle.syntax.specs.Kinds.{more_objects_symbol}
use Rattle.syntax.specs.Kinds.{more_verbs_symbol, bracket_symbol, member_symbol, more_and_symbol, more_or_symbol, closes_symbol}
use Rattle.syntax.specs.Kinds.{open_node, triple_node, filter_node, union_node, join_node}
use Rattle.syntax.specs.Cells.{pass}
use Rattle.syntax.specs.Grammar.{cell_of}
use Rattle.syntax.specs.Machine.{fed_to, word_kind, parsed}
use Rattle.syntax.specs.Trees.{Leaf, GroupPattern, empty, with_triple, with_filter, with_union, GroupOrUnion, alone, united}
use Rattle.syntax.specs.Shown.{type_shown, leaf_shown, constraint_words, constraint_shown, parts_words, union_words, parts_shown, union_shown}
use Rattle.syntax_trees.proofs.Reading.{at_kinds, token_passes, node_written, node_before, leaf_taken, operand_taken, behind, one_more_fact}
use Rattle.syntax_trees.proofs.Showing.{OrReads, constraint_reads}

-- what may stand behind a part: neither UNION nor a point
abbrev pub Follows : ℕ → Type 0
Follows k = (cell_of more_union_symbol k ≡ pass) × (cell_of dot_symbol k ≡ pass)

pub object_follows : (a : Leaf objects) → Follows (word_kind a.token)
unfolding cell_of
object_follows a =
    at_kinds Follows objects
    ((refl, refl), ((refl, refl), ((refl, refl), ((refl, refl), ((refl, refl), ((refl, refl), tt)))))) (word_kind a.token) a.fits

pub filter_follows : (a : Leaf (filter_word ∷ [])) → Follows (word_kind a.token)
unfolding cell_of
filter_follows a = at_kinds Follows (filter_word ∷ []) ((refl, refl), tt) (word_kind a.token) a.fits

pub closing_follows : (a : Leaf (unbrace_sign ∷ [])) → Follows (word_kind a.token)
unfolding cell_of
closing_follows a = at_kinds Follows (unbrace_sign ∷ []) ((refl, refl), tt) (word_kind a.token) a.fits

brace_follows : Follows (word_kind brace_sign)
unfolding cell_of
brace_follows = (refl, refl)

-- before what may follow, a group's parts have its words written; groups in braces do before any token
abbrev pub PartsRead : List ℕ → List ℕ → Type 0
PartsRead ts ws = (t : ℕ) (xs st out : List ℕ) → Follows (word_kind t)
    → parsed (ts ++ (t ∷ xs)) (parts_symbol ∷ st) out ≡ parsed (t ∷ xs) (parts_symbol ∷ st) (out ++ ws)

abbrev UnionReads : List ℕ → List ℕ → Type 0
UnionReads us vs = (t : ℕ) (xs st out : List ℕ)
    → parsed (us ++ (t ∷ xs)) (parts_symbol ∷ st) out ≡ parsed (t ∷ xs) (more_union_symbol ∷ join_node ∷ dot_symbol ∷ parts_symbol ∷ st) (out ++ vs)

nothing_read : PartsRead [] []
nothing_read t xs st out p = ap (parsed (t ∷ xs) (parts_symbol ∷ st)) (sym (append-nil out))

-- ---- tokens
subject_taken : (a : Leaf objects) (xs st out : List ℕ)
    → parsed (leaf_shown a.token ++ xs) (parts_symbol ∷ st) out
    ≡ parsed xs (verb_symbol ∷ after_triples_symbol ∷ parts_symbol ∷ st) (out ++ (a.token ∷ []))
unfolding cell_of
subject_taken a xs st out =
    operand_taken parts_symbol refl (verb_symbol ∷ after_triples_symbol ∷ parts_symbol ∷ []) objects
    (refl, (refl, (refl, (refl, (refl, (refl, tt)))))) a xs st out

verb_taken : (p : Leaf verbs) (xs st out : List ℕ)
    → parsed (p.token ∷ xs) (verb_symbol ∷ st) out
    ≡ parsed xs (object_symbol ∷ triple_node ∷ more_objects_symbol ∷ more_verbs_symbol ∷ st) (out ++ (p.token ∷ []))
unfolding cell_of
verb_taken p xs st out =
    leaf_taken verb_symbol refl (object_symbol ∷ triple_node ∷ more_objects_symbol ∷ more_verbs_symbol ∷ []) verbs (refl, (refl, (refl, tt))) p xs st out

object_taken : (a : Leaf objects) (xs st out : List ℕ)
    → parsed (leaf_shown a.token ++ xs) (object_symbol ∷ st) out ≡ parsed xs st (out ++ (a.token ∷ []))
unfolding cell_of
object_taken a xs st out = operand_taken object_symbol refl [] objects (refl, (refl, (refl, (refl, (refl, (refl, tt)))))) a xs st out

filter_taken : (a : Leaf (filter_word ∷ [])) (xs st out : List ℕ)
    → parsed (a.token ∷ xs) (parts_symbol ∷ st) out
    ≡ parsed xs (bracket_symbol ∷ filter_node ∷ dot_symbol ∷ parts_symbol ∷ st) (out ++ (a.token ∷ []))
unfolding cell_of
filter_taken a xs st out =
    leaf_taken parts_symbol refl (bracket_symbol ∷ filter_node ∷ dot_symbol ∷ parts_symbol ∷ []) (filter_word ∷ []) (refl, tt) a xs st out

pub closing_taken : (a : Leaf (unbrace_sign ∷ [])) (xs st out : List ℕ)
    → parsed (a.token ∷ xs) (parts_symbol ∷ unbrace_symbol ∷ st) out ≡ parsed xs st (out ++ (a.token ∷ []))
unfolding cell_of
closing_taken a xs st out =
    token_passes a.token xs parts_symbol (unbrace_symbol ∷ st) out refl
    (at_kinds (λ k. cell_of parts_symbol k ≡ pass) (unbrace_sign ∷ []) (refl, tt) (word_kind a.token) a.fits)
    ∙ leaf_taken unbrace_symbol refl [] (unbrace_sign ∷ []) (refl, tt) a xs st out

point_taken : (xs st out : List ℕ)
    → parsed (dot_sign ∷ xs) (triple_node ∷ more_objects_symbol ∷ more_verbs_symbol ∷ after_triples_symbol ∷ st) out
    ≡ parsed xs st (out ++ (triple_node ∷ []))
unfolding parsed fed_to cell_of
point_taken xs st out = refl

bracket_taken : (xs st out : List ℕ)
    → parsed (opens_sign ∷ xs) (bracket_symbol ∷ st) out ≡ parsed xs (member_symbol ∷ more_and_symbol ∷ more_or_symbol ∷ closes_symbol ∷ st) out
unfolding parsed fed_to cell_of
bracket_taken xs st out = refl

bracket_closed : (xs st out : List ℕ) → parsed (closes_sign ∷ xs) (more_and_symbol ∷ more_or_symbol ∷ closes_symbol ∷ st) out ≡ parsed xs st out
unfolding parsed fed_to cell_of
bracket_closed xs st out = refl

closes_passes : cell_of more_and_symbol (word_kind closes_sign) ≡ pass
unfolding cell_of
closes_passes = refl

brace_taken : (xs st out : List ℕ)
    → parsed (brace_sign ∷ xs) (parts_symbol ∷ st) out
    ≡ parsed xs (open_node ∷ parts_symbol ∷ unbrace_symbol ∷ more_union_symbol ∷ join_node ∷ dot_symbol ∷ parts_symbol ∷ st) out
unfolding parsed fed_to cell_of
brace_taken xs st out = refl

union_taken : (xs st out : List ℕ)
    → parsed (union_word ∷ brace_sign ∷ xs) (more_union_symbol ∷ st) out
    ≡ parsed xs (open_node ∷ parts_symbol ∷ unbrace_symbol ∷ union_node ∷ more_union_symbol ∷ st) out
unfolding parsed fed_to cell_of
union_taken xs st out = refl

-- ---- each part
module _ (ts ws : List ℕ) (r : PartsRead ts ws) where
  with_triple_lem : (a : Leaf objects) (p : Leaf verbs) (o : Leaf objects)
      → PartsRead (ts ++ (leaf_shown a.token ++ (p.token ∷ (leaf_shown o.token ++ (dot_sign ∷ [])))))
      (ws ++ (a.token ∷ p.token ∷ o.token ∷ triple_node ∷ []))
  with_triple_lem a p o t xs st out f =
      let os = leaf_shown o.token ++ (dot_sign ∷ []) in
      let as' = leaf_shown a.token in
      let o1 = (out ++ ws) ++ (a.token ∷ []) in
      behind ts (as' ++ (p.token ∷ os)) (t ∷ xs) (parts_symbol ∷ st) out
      ∙ ap (λ l. parsed (ts ++ l) (parts_symbol ∷ st) out) (append_assoc as' (p.token ∷ os) (t ∷ xs))
      ∙ r a.token (type_shown (is_one_of typed_operands (word_kind a.token)) ++ (p.token ∷ (os ++ (t ∷ xs)))) st out (object_follows a)
      ∙ subject_taken a (p.token ∷ (os ++ (t ∷ xs))) st (out ++ ws)
      ∙ verb_taken p (os ++ (t ∷ xs)) (after_triples_symbol ∷ parts_symbol ∷ st) o1
      ∙ behind (leaf_shown o.token) (dot_sign ∷ []) (t ∷ xs)
      (object_symbol ∷ triple_node ∷ more_objects_symbol ∷ more_verbs_symbol ∷ after_triples_symbol ∷ parts_symbol ∷ st) (o1 ++ (p.token ∷ []))
      ∙ object_taken o (dot_sign ∷ t ∷ xs) (triple_node ∷ more_objects_symbol ∷ more_verbs_symbol ∷ after_triples_symbol ∷ parts_symbol ∷ st)
      (o1 ++ (p.token ∷ []))
      ∙ point_taken (t ∷ xs) (parts_symbol ∷ st) ((o1 ++ (p.token ∷ [])) ++ (o.token ∷ []))
      ∙ ap (parsed (t ∷ xs) (parts_symbol ∷ st))
      (one_more_fact (o1 ++ (p.token ∷ [])) o.token (triple_node ∷ [])
      ∙ one_more_fact o1 p.token (o.token ∷ triple_node ∷ [])
      ∙ one_more_fact (out ++ ws) a.token (p.token ∷ o.token ∷ triple_node ∷ [])
      ∙ append_assoc out ws (a.token ∷ p.token ∷ o.token ∷ triple_node ∷ []))

  with_filter_lem : (w : Leaf (filter_word ∷ [])) (us vs : List ℕ) → OrReads us vs
      → PartsRead (ts ++ (w.token ∷ opens_sign ∷ (us ++ (closes_sign ∷ [])))) (ws ++ (w.token ∷ (vs ++ (filter_node ∷ []))))
  with_filter_lem w us vs q t xs st out f =
      let o1 = (out ++ ws) ++ (w.token ∷ []) in
      let rest = filter_node ∷ dot_symbol ∷ parts_symbol ∷ st in
      behind ts (w.token ∷ opens_sign ∷ (us ++ (closes_sign ∷ []))) (t ∷ xs) (parts_symbol ∷ st) out
      ∙ r w.token (opens_sign ∷ ((us ++ (closes_sign ∷ [])) ++ (t ∷ xs))) st out (filter_follows w)
      ∙ filter_taken w (opens_sign ∷ ((us ++ (closes_sign ∷ [])) ++ (t ∷ xs))) st (out ++ ws)
      ∙ bracket_taken ((us ++ (closes_sign ∷ [])) ++ (t ∷ xs)) rest o1
      ∙ behind us (closes_sign ∷ []) (t ∷ xs) (member_symbol ∷ more_and_symbol ∷ more_or_symbol ∷ closes_symbol ∷ rest) o1
      ∙ q closes_sign (t ∷ xs) (closes_symbol ∷ rest) o1 closes_passes
      ∙ bracket_closed (t ∷ xs) rest (o1 ++ vs)
      ∙ node_written t xs filter_node (dot_symbol ∷ parts_symbol ∷ st) (o1 ++ vs) refl
      ∙ token_passes t xs dot_symbol (parts_symbol ∷ st) ((o1 ++ vs) ++ (filter_node ∷ [])) refl f.1
      ∙ ap (parsed (t ∷ xs) (parts_symbol ∷ st))
      (append_assoc o1 vs (filter_node ∷ [])
      ∙ one_more_fact (out ++ ws) w.token (vs ++ (filter_node ∷ []))
      ∙ append_assoc out ws (w.token ∷ (vs ++ (filter_node ∷ []))))

  -- a group in braces up to its brace, with what was before it
  pub in_braces : (c : Leaf (unbrace_sign ∷ [])) (zs st out : List ℕ)
      → parsed ((ts ++ (c.token ∷ [])) ++ zs) (open_node ∷ parts_symbol ∷ unbrace_symbol ∷ st) out
      ≡ parsed zs st (out ++ (open_node ∷ (ws ++ (c.token ∷ []))))
  in_braces c zs st out =
      let o1 = out ++ (open_node ∷ []) in
      behind ts (c.token ∷ []) zs (open_node ∷ parts_symbol ∷ unbrace_symbol ∷ st) out
      ∙ node_before open_node ts c.token zs (parts_symbol ∷ unbrace_symbol ∷ st) out refl
      ∙ r c.token zs (unbrace_symbol ∷ st) o1 (closing_follows c)
      ∙ closing_taken c zs st (o1 ++ ws)
      ∙ ap (parsed zs st) (append_assoc o1 ws (c.token ∷ []) ∙ one_more_fact out open_node (ws ++ (c.token ∷ [])))

  first_group : (c : Leaf (unbrace_sign ∷ [])) → UnionReads (brace_sign ∷ (ts ++ (c.token ∷ []))) (open_node ∷ (ws ++ (c.token ∷ [])))
  first_group c t xs st out =
      brace_taken ((ts ++ (c.token ∷ [])) ++ (t ∷ xs)) st out
      ∙ in_braces c (t ∷ xs) (more_union_symbol ∷ join_node ∷ dot_symbol ∷ parts_symbol ∷ st) out

  next_group : (c : Leaf (unbrace_sign ∷ [])) (us vs : List ℕ) → UnionReads us vs
      → UnionReads (us ++ (union_word ∷ brace_sign ∷ (ts ++ (c.token ∷ [])))) (vs ++ (open_node ∷ (ws ++ (c.token ∷ union_node ∷ []))))
  next_group c us vs q t xs st out =
      let ys = (ts ++ (c.token ∷ [])) ++ (t ∷ xs) in
      let more = more_union_symbol ∷ join_node ∷ dot_symbol ∷ parts_symbol ∷ st in
      let w = open_node ∷ (ws ++ (c.token ∷ [])) in
      behind us (union_word ∷ brace_sign ∷ (ts ++ (c.token ∷ []))) (t ∷ xs) (parts_symbol ∷ st) out
      ∙ q union_word (brace_sign ∷ ys) st out
      ∙ union_taken ys (join_node ∷ dot_symbol ∷ parts_symbol ∷ st) (out ++ vs)
      ∙ in_braces c (t ∷ xs) (union_node ∷ more) (out ++ vs)
      ∙ node_written t xs union_node more ((out ++ vs) ++ w) refl
      ∙ ap (parsed (t ∷ xs) more)
      (append_assoc (out ++ vs) w (union_node ∷ [])
      ∙ ap (λ l. (out ++ vs) ++ (open_node ∷ l)) (append_assoc ws (c.token ∷ []) (union_node ∷ []))
      ∙ append_assoc out vs (open_node ∷ (ws ++ (c.token ∷ union_node ∷ []))))

  -- groups after the parts
  with_groups_lem : (us vs tail : List ℕ) → us ≡ brace_sign ∷ tail → UnionReads us vs → PartsRead (ts ++ us) (ws ++ (vs ++ (join_node ∷ [])))
  with_groups_lem us vs tail e q t xs st out f =
      behind ts us (t ∷ xs) (parts_symbol ∷ st) out
      ∙ ap (λ l. parsed (ts ++ (l ++ (t ∷ xs))) (parts_symbol ∷ st) out) e
      ∙ r brace_sign (tail ++ (t ∷ xs)) st out brace_follows
      ∙ ap (λ l. parsed (l ++ (t ∷ xs)) (parts_symbol ∷ st) (out ++ ws)) (sym e)
      ∙ q t xs st (out ++ ws)
      ∙ token_passes t xs more_union_symbol (join_node ∷ dot_symbol ∷ parts_symbol ∷ st) ((out ++ ws) ++ vs) refl f.0
      ∙ node_written t xs join_node (dot_symbol ∷ parts_symbol ∷ st) ((out ++ ws) ++ vs) refl
      ∙ token_passes t xs dot_symbol (parts_symbol ∷ st) (((out ++ ws) ++ vs) ++ (join_node ∷ [])) refl f.1
      ∙ ap (parsed (t ∷ xs) (parts_symbol ∷ st)) (append_assoc (out ++ ws) vs (join_node ∷ []) ∙ append_assoc out ws (vs ++ (join_node ∷ [])))

-- groups in braces begin with a brace
pub record BeginsBrace (us : List ℕ) : Type 0 where
  pub tail : List ℕ
  pub is : us ≡ brace_sign ∷ tail

pub begins_brace : (u : GroupOrUnion) → BeginsBrace (union_shown u)
unfolding union_shown
begins_brace (alone g c) = record { tail = parts_shown g ++ (c.token ∷ []); is = refl }
begins_brace (united u g c) =
    let rest = union_word ∷ brace_sign ∷ (parts_shown g ++ (c.token ∷ [])) in
    record { tail = (begins_brace u).tail ++ rest; is = ap (λ l. l ++ rest) (begins_brace u).is }

-- every group
mutual
  unfolding parts_shown parts_words

  pub parts_read : (g : GroupPattern) → PartsRead (parts_shown g) (parts_words g)
  parts_read empty = nothing_read
  parts_read (with_triple g a p o) = with_triple_lem (parts_shown g) (parts_words g) (parts_read g) a p o
  parts_read (with_filter g w e) =
      with_filter_lem (parts_shown g) (parts_words g) (parts_read g) w (constraint_shown e) (constraint_words e) (constraint_reads e).in_or
  parts_read (with_union g u) =
      with_groups_lem (parts_shown g) (parts_words g) (parts_read g) (union_shown u) (union_words u) (begins_brace u).tail (begins_brace u).is (union_read u)

  union_read : (u : GroupOrUnion) → UnionReads (union_shown u) (union_words u)
  union_read (alone g c) = first_group (parts_shown g) (parts_words g) (parts_read g) c
  union_read (united u g c) = next_group (parts_shown g) (parts_words g) (parts_read g) c (union_shown u) (union_words u) (union_read u)
