-- A condition, shown and read, has its words written.
use Prim.Native.Nat.{ℕ}
use mathlib.Core.Bool.{true, false}
use lib.Dec.{ltb}
use mathlib.Core.Path.{◌≡◌, refl, sym, ◌∙◌, ap}
use mathlib.Core.List.{List, [], ◌∷◌, ◌++◌, append_assoc, append-nil}
use Rattle.syntax.specs.Kinds.{operands, comparison_signs, in_word, opens_sign, closes_sign, comma_sign, not_sign, and_sign, or_sign}
use Rattle.syntax.specs.Kinds.{member_symbol, more_and_symbol, more_or_symbol, comparison_symbol, operand_symbol, members_symbol, more_members_symbol}
use Rattle.syntax.specs.Kinds.{closes_symbol}
use Rattle.syntax.specs.Kinds.{compare_node, one_of_node, one_more_node, never_node, not_node, and_node, or_node}
use Rattle.syntax.specs.Cells.{pass}
use Rattle.syntax.specs.Grammar.{cell_of}
use Rattle.syntax.specs.Machine.{fed_to, word_kind, parsed}
use Rattle.syntax.specs.Trees.{Leaf, Constraint, compared, among, negated, both, either}
use Rattle.syntax.specs.Shown.{leaf_shown, members_words, among_words, constraint_words, tightness, bracketed, members_shown, among_shown, constraint_shown}
use Rattle.syntax_trees.proofs.Reading.{token_passes, node_written, leaf_taken, operand_taken, behind, one_more_fact}

-- the tokens ts, before any other, have a member, a chain of "and" or a chain of "or" write the words ws
abbrev pub MemberReads : List ℕ → List ℕ → Type 0
MemberReads ts ws = (t : ℕ) (xs st out : List ℕ) → parsed (ts ++ (t ∷ xs)) (member_symbol ∷ st) out ≡ parsed (t ∷ xs) st (out ++ ws)

abbrev pub AndReads : List ℕ → List ℕ → Type 0
AndReads ts ws = (t : ℕ) (xs st out : List ℕ)
    → parsed (ts ++ (t ∷ xs)) (member_symbol ∷ more_and_symbol ∷ st) out ≡ parsed (t ∷ xs) (more_and_symbol ∷ st) (out ++ ws)

abbrev pub OrReads : List ℕ → List ℕ → Type 0
OrReads ts ws = (t : ℕ) (xs st out : List ℕ) → cell_of more_and_symbol (word_kind t) ≡ pass
    → parsed (ts ++ (t ∷ xs)) (member_symbol ∷ more_and_symbol ∷ more_or_symbol ∷ st) out
    ≡ parsed (t ∷ xs) (more_and_symbol ∷ more_or_symbol ∷ st) (out ++ ws)

member_and : (ts ws : List ℕ) → MemberReads ts ws → AndReads ts ws
member_and ts ws r t xs st out = r t xs (more_and_symbol ∷ st) out

and_or : (ts ws : List ℕ) → AndReads ts ws → OrReads ts ws
and_or ts ws r t xs st out p = r t xs (more_or_symbol ∷ st) out

-- ---- operands
first_operand : (a : Leaf operands) (xs st out : List ℕ)
    → parsed (leaf_shown a.token ++ xs) (member_symbol ∷ st) out ≡ parsed xs (comparison_symbol ∷ st) (out ++ (a.token ∷ []))
unfolding cell_of
first_operand a xs st out =
    operand_taken member_symbol refl (comparison_symbol ∷ []) operands
    (refl, (refl, (refl, (refl, (refl, (refl, (refl, (refl, tt)))))))) a xs st out

next_operand : (a : Leaf operands) (xs st out : List ℕ)
    → parsed (leaf_shown a.token ++ xs) (operand_symbol ∷ st) out ≡ parsed xs st (out ++ (a.token ∷ []))
unfolding cell_of
next_operand a xs st out =
    operand_taken operand_symbol refl [] operands
    (refl, (refl, (refl, (refl, (refl, (refl, (refl, (refl, tt)))))))) a xs st out

first_member : (a : Leaf operands) (xs st out : List ℕ)
    → parsed (leaf_shown a.token ++ xs) (members_symbol ∷ st) out ≡ parsed xs (one_of_node ∷ more_members_symbol ∷ st) (out ++ (a.token ∷ []))
unfolding cell_of
first_member a xs st out =
    operand_taken members_symbol refl (one_of_node ∷ more_members_symbol ∷ []) operands
    (refl, (refl, (refl, (refl, (refl, (refl, (refl, (refl, tt)))))))) a xs st out

sign_taken : (o : Leaf comparison_signs) (xs st out : List ℕ)
    → parsed (o.token ∷ xs) (comparison_symbol ∷ st) out ≡ parsed xs (operand_symbol ∷ compare_node ∷ st) (out ++ (o.token ∷ []))
unfolding cell_of
sign_taken o xs st out =
    leaf_taken comparison_symbol refl (operand_symbol ∷ compare_node ∷ []) comparison_signs
    (refl, (refl, (refl, (refl, (refl, (refl, tt)))))) o xs st out

-- ---- comparisons and IN
comparison_reads : (a : Leaf operands) (o : Leaf comparison_signs) (b : Leaf operands)
    → MemberReads (leaf_shown a.token ++ (o.token ∷ leaf_shown b.token)) (a.token ∷ o.token ∷ b.token ∷ compare_node ∷ [])
comparison_reads a o b t xs st out =
    behind (leaf_shown a.token) (o.token ∷ leaf_shown b.token) (t ∷ xs) (member_symbol ∷ st) out
    ∙ first_operand a (o.token ∷ (leaf_shown b.token ++ (t ∷ xs))) st out
    ∙ sign_taken o (leaf_shown b.token ++ (t ∷ xs)) st (out ++ (a.token ∷ []))
    ∙ next_operand b (t ∷ xs) (compare_node ∷ st) ((out ++ (a.token ∷ [])) ++ (o.token ∷ []))
    ∙ node_written t xs compare_node st (((out ++ (a.token ∷ [])) ++ (o.token ∷ [])) ++ (b.token ∷ [])) refl
    ∙ ap (parsed (t ∷ xs) st)
    (one_more_fact ((out ++ (a.token ∷ [])) ++ (o.token ∷ [])) b.token (compare_node ∷ [])
    ∙ one_more_fact (out ++ (a.token ∷ [])) o.token (b.token ∷ compare_node ∷ [])
    ∙ one_more_fact out a.token (o.token ∷ b.token ∷ compare_node ∷ []))

members_node : (n : ℕ) (l : List (Leaf operands)) (zs st out : List ℕ) → ltb n 64 ≡ false
    → parsed (members_shown l ++ zs) (n ∷ st) out ≡ parsed (members_shown l ++ zs) st (out ++ (n ∷ []))
members_node n [] zs st out h = node_written closes_sign zs n st out h
members_node n (b ∷ l) zs st out h = node_written comma_sign ((leaf_shown b.token ++ members_shown l) ++ zs) n st out h

members_read : (l : List (Leaf operands)) (zs st out : List ℕ)
    → parsed (members_shown l ++ zs) (more_members_symbol ∷ st) out ≡ parsed zs st (out ++ members_words l)
unfolding parsed fed_to cell_of
members_read [] zs st out = ap (parsed zs st) (sym (append-nil out))
members_read (b ∷ l) zs st out =
    behind (leaf_shown b.token) (members_shown l) zs (operand_symbol ∷ one_more_node ∷ more_members_symbol ∷ st) out
    ∙ next_operand b (members_shown l ++ zs) (one_more_node ∷ more_members_symbol ∷ st) out
    ∙ members_node one_more_node l zs (more_members_symbol ∷ st) (out ++ (b.token ∷ [])) refl
    ∙ members_read l zs st ((out ++ (b.token ∷ [])) ++ (one_more_node ∷ []))
    ∙ ap (parsed zs st)
    (one_more_fact (out ++ (b.token ∷ [])) one_more_node (members_words l) ∙ one_more_fact out b.token (one_more_node ∷ members_words l))

among_list : (x : Leaf operands) (l : List (Leaf operands)) (t : ℕ) (xs st out : List ℕ)
    → parsed (among_shown l ++ (t ∷ xs)) (members_symbol ∷ st) (out ++ (x.token ∷ [])) ≡ parsed (t ∷ xs) st (out ++ among_words x l)
unfolding parsed fed_to cell_of
among_list x [] t xs st out =
    node_written t xs never_node st (out ++ (x.token ∷ [])) refl ∙ ap (parsed (t ∷ xs) st) (one_more_fact out x.token (never_node ∷ []))
among_list x (a ∷ l) t xs st out =
    behind (leaf_shown a.token) (members_shown l) (t ∷ xs) (members_symbol ∷ st) (out ++ (x.token ∷ []))
    ∙ first_member a (members_shown l ++ (t ∷ xs)) st (out ++ (x.token ∷ []))
    ∙ members_node one_of_node l (t ∷ xs) (more_members_symbol ∷ st) ((out ++ (x.token ∷ [])) ++ (a.token ∷ [])) refl
    ∙ members_read l (t ∷ xs) st (((out ++ (x.token ∷ [])) ++ (a.token ∷ [])) ++ (one_of_node ∷ []))
    ∙ ap (parsed (t ∷ xs) st)
    (one_more_fact ((out ++ (x.token ∷ [])) ++ (a.token ∷ [])) one_of_node (members_words l)
    ∙ one_more_fact (out ++ (x.token ∷ [])) a.token (one_of_node ∷ members_words l)
    ∙ one_more_fact out x.token (a.token ∷ one_of_node ∷ members_words l))

in_taken : (zs st out : List ℕ) → parsed (in_word ∷ opens_sign ∷ zs) (comparison_symbol ∷ st) out ≡ parsed zs (members_symbol ∷ st) out
unfolding parsed fed_to cell_of
in_taken zs st out = refl

among_reads : (x : Leaf operands) (l : List (Leaf operands))
    → MemberReads (leaf_shown x.token ++ (in_word ∷ opens_sign ∷ among_shown l)) (among_words x l)
among_reads x l t xs st out =
    behind (leaf_shown x.token) (in_word ∷ opens_sign ∷ among_shown l) (t ∷ xs) (member_symbol ∷ st) out
    ∙ first_operand x (in_word ∷ opens_sign ∷ (among_shown l ++ (t ∷ xs))) st out
    ∙ in_taken (among_shown l ++ (t ∷ xs)) st (out ++ (x.token ∷ []))
    ∙ among_list x l t xs st out

-- ---- at an "or", and before what may stand behind a chain of "or"
or_passes : cell_of more_and_symbol (word_kind or_sign) ≡ pass
unfolding cell_of
or_passes = refl

or_onward : (xs st out : List ℕ)
    → parsed (or_sign ∷ xs) (more_and_symbol ∷ more_or_symbol ∷ st) out ≡ parsed xs (member_symbol ∷ more_and_symbol ∷ or_node ∷ more_or_symbol ∷ st) out
unfolding parsed fed_to cell_of
or_onward xs st out = refl

or_flushed : (t : ℕ) (xs st out : List ℕ) → cell_of more_and_symbol (word_kind t) ≡ pass
    → parsed (t ∷ xs) (more_and_symbol ∷ or_node ∷ more_or_symbol ∷ st) out
    ≡ parsed (t ∷ xs) (more_and_symbol ∷ more_or_symbol ∷ st) (out ++ (or_node ∷ []))
or_flushed t xs st out p =
    token_passes t xs more_and_symbol (or_node ∷ more_or_symbol ∷ st) out refl p
    ∙ node_written t xs or_node (more_or_symbol ∷ st) out refl
    ∙ sym (token_passes t xs more_and_symbol (more_or_symbol ∷ st) (out ++ (or_node ∷ [])) refl p)

module _ (ts ws : List ℕ) where
  bracket_reads : OrReads ts ws → MemberReads (opens_sign ∷ (ts ++ (closes_sign ∷ []))) ws
  unfolding parsed fed_to cell_of
  bracket_reads r t xs st out =
      behind ts (closes_sign ∷ []) (t ∷ xs) (member_symbol ∷ more_and_symbol ∷ more_or_symbol ∷ closes_symbol ∷ st) out
      ∙ r closes_sign (t ∷ xs) (closes_symbol ∷ st) out refl

  not_reads : OrReads ts ws → MemberReads (not_sign ∷ opens_sign ∷ (ts ++ (closes_sign ∷ []))) (ws ++ (not_node ∷ []))
  unfolding parsed fed_to cell_of
  not_reads r t xs st out =
      behind ts (closes_sign ∷ []) (t ∷ xs) (member_symbol ∷ more_and_symbol ∷ more_or_symbol ∷ closes_symbol ∷ not_node ∷ st) out
      ∙ r closes_sign (t ∷ xs) (closes_symbol ∷ not_node ∷ st) out refl
      ∙ ap (parsed (t ∷ xs) st) (append_assoc out ws (not_node ∷ []))

  module _ (us vs : List ℕ) where
    and_reads : AndReads ts ws → MemberReads us vs → AndReads (ts ++ (and_sign ∷ us)) (ws ++ (vs ++ (and_node ∷ [])))
    unfolding parsed fed_to cell_of
    and_reads r q t xs st out =
        behind ts (and_sign ∷ us) (t ∷ xs) (member_symbol ∷ more_and_symbol ∷ st) out
        ∙ r and_sign (us ++ (t ∷ xs)) st out
        ∙ q t xs (and_node ∷ more_and_symbol ∷ st) (out ++ ws)
        ∙ ap (parsed (t ∷ xs) (more_and_symbol ∷ st))
        (append_assoc (out ++ ws) vs (and_node ∷ []) ∙ append_assoc out ws (vs ++ (and_node ∷ [])))

    or_reads : OrReads ts ws → AndReads us vs → OrReads (ts ++ (or_sign ∷ us)) (ws ++ (vs ++ (or_node ∷ [])))
    or_reads r q t xs st out p =
        behind ts (or_sign ∷ us) (t ∷ xs) (member_symbol ∷ more_and_symbol ∷ more_or_symbol ∷ st) out
        ∙ r or_sign (us ++ (t ∷ xs)) st out or_passes
        ∙ or_onward (us ++ (t ∷ xs)) st (out ++ ws)
        ∙ q t xs (or_node ∷ more_or_symbol ∷ st) (out ++ ws)
        ∙ or_flushed t xs st ((out ++ ws) ++ vs) p
        ∙ ap (parsed (t ∷ xs) (more_and_symbol ∷ more_or_symbol ∷ st))
        (append_assoc (out ++ ws) vs (or_node ∷ []) ∙ append_assoc out ws (vs ++ (or_node ∷ [])))

-- ---- each condition, as a member, in a chain of "and", and in a chain of "or"
pub record ConstraintReads (e : Constraint) : Type 0 where
  pub as_member : MemberReads (bracketed (ltb (tightness e) 2) (constraint_shown e)) (constraint_words e)
  pub in_and : AndReads (bracketed (ltb (tightness e) 1) (constraint_shown e)) (constraint_words e)
  pub in_or : OrReads (constraint_shown e) (constraint_words e)

pub constraint_reads : (e : Constraint) → ConstraintReads e
unfolding constraint_shown constraint_words
constraint_reads (compared a o b) =
    let m = comparison_reads a o b in
    let ts = leaf_shown a.token ++ (o.token ∷ leaf_shown b.token) in
    let ws = a.token ∷ o.token ∷ b.token ∷ compare_node ∷ [] in
    record { as_member = m; in_and = member_and ts ws m; in_or = and_or ts ws (member_and ts ws m) }
constraint_reads (among x l) =
    let m = among_reads x l in
    let ts = leaf_shown x.token ++ (in_word ∷ opens_sign ∷ among_shown l) in
    let ws = among_words x l in
    record { as_member = m; in_and = member_and ts ws m; in_or = and_or ts ws (member_and ts ws m) }
constraint_reads (negated e) =
    let m = not_reads (constraint_shown e) (constraint_words e) (constraint_reads e).in_or in
    let ts = not_sign ∷ opens_sign ∷ (constraint_shown e ++ (closes_sign ∷ [])) in
    let ws = constraint_words e ++ (not_node ∷ []) in
    record { as_member = m; in_and = member_and ts ws m; in_or = and_or ts ws (member_and ts ws m) }
constraint_reads (both a b) =
    let as' = bracketed (ltb (tightness a) 1) (constraint_shown a) in
    let bs = bracketed (ltb (tightness b) 2) (constraint_shown b) in
    let ts = as' ++ (and_sign ∷ bs) in
    let ws = constraint_words a ++ (constraint_words b ++ (and_node ∷ [])) in
    let r = and_reads as' (constraint_words a) bs (constraint_words b) (constraint_reads a).in_and (constraint_reads b).as_member in
    record { as_member = bracket_reads ts ws (and_or ts ws r); in_and = r; in_or = and_or ts ws r }
constraint_reads (either a b) =
    let bs = bracketed (ltb (tightness b) 1) (constraint_shown b) in
    let ts = constraint_shown a ++ (or_sign ∷ bs) in
    let ws = constraint_words a ++ (constraint_words b ++ (or_node ∷ [])) in
    let r = or_reads (constraint_shown a) (constraint_words a) bs (constraint_words b) (constraint_reads a).in_or (constraint_reads b).in_and in
    let m = bracket_reads ts ws r in
    record { as_member = m; in_and = member_and (bracketed true ts) ws m; in_or = r }
