-- From words to a tree: each word takes what stands before it. Assumes nothing: these are definitions.
use Rattle.std.specs.Prelude.{ℕ, Bool, true, false, cond, List, [], ◌∷◌, ◌++◌, T, eqb, ltb}
use Rattle.std.proofs.Math.Option.{Option, none, some}
use Rattle.tokens.specs.Classes.{is_one_of}
use Rattle.syntax.specs.Kinds.{operands, objects, verbs, variable_kinds, comparison_signs, measures, countables, directions}
use Rattle.syntax.specs.Kinds.{filter_word, unbrace_sign, count_word, opens_sign, star_sign, year_token, count_token, distinct_word, grouping_word}
use Rattle.syntax.specs.Kinds.{column_node, aggregate_node, count_distinct_node, from_node, open_node, graph_node, triple_node, same_subject_node}
use Rattle.syntax.specs.Kinds.{same_verb_node, filter_node, union_node, join_node, compare_node, one_of_node, one_more_node, never_node, not_node}
use Rattle.syntax.specs.Kinds.{and_node, or_node, by_node, key_node, key_by_node, limit_node, offset_node}
use Rattle.syntax.specs.Machine.{word_kind}
use Rattle.syntax.specs.Trees.{Leaf, Constraint, compared, among, negated, both, either}
use Rattle.syntax.specs.Trees.{GroupPattern, empty, with_triple, with_filter, with_union, GroupOrUnion, alone, united}
use Rattle.syntax.specs.Outlines.{Outline, no_outline, with_distinct, with_star, with_column, with_source, with_group_word, with_name, with_key}
use Rattle.syntax.specs.Outlines.{with_limit, with_offset, query_with}
use Rattle.syntax.specs.Trees.{Aggregate, counted, counted_distinct, measured, plain, aggregated, of_year, every_year, plain_key, directed, Query}

-- what was read and waits to be taken, the last first: tokens, conditions, groups that are open, groups that are closed; and what is known of the whole
pub record Pending : Type 0 where
  pub tokens : List ℕ
  pub constraints : List Constraint
  pub groups : List GroupPattern
  pub closed : List GroupOrUnion
  pub outline : Outline

abbrev pub nothing_yet : Pending
nothing_yet = record { tokens = []; constraints = []; groups = []; closed = []; outline = no_outline }

abbrev pub with_tokens : List ℕ → Pending → Pending
with_tokens l s = record { tokens = l; constraints = s.constraints; groups = s.groups; closed = s.closed; outline = s.outline }

abbrev pub with_constraints : List Constraint → Pending → Pending
with_constraints l s = record { tokens = s.tokens; constraints = l; groups = s.groups; closed = s.closed; outline = s.outline }

abbrev pub with_groups : List GroupPattern → Pending → Pending
with_groups l s = record { tokens = s.tokens; constraints = s.constraints; groups = l; closed = s.closed; outline = s.outline }

abbrev pub with_closed : List GroupOrUnion → Pending → Pending
with_closed l s = record { tokens = s.tokens; constraints = s.constraints; groups = s.groups; closed = l; outline = s.outline }

abbrev pub with_outline : Outline → Pending → Pending
with_outline o s = record { tokens = s.tokens; constraints = s.constraints; groups = s.groups; closed = s.closed; outline = o }

-- a token as a leaf, if it is of the kinds; what is made of it, or else
abbrev pub by_fit : {A : Type 0} (kinds : List ℕ) (t : ℕ) (b : Bool) → (T b → T (is_one_of kinds (word_kind t))) → (Leaf kinds → A) → A → A
by_fit kinds t true g f d = f (record { token = t; fits = g tt })
by_fit kinds t false g f d = d

unfoldable pub if_fits : {A : Type 0} (kinds : List ℕ) (t : ℕ) → (Leaf kinds → A) → A → A
if_fits kinds t f d = by_fit kinds t (is_one_of kinds (word_kind t)) (λ x. x) f d

-- the last token as a leaf, and those before it
unfoldable pub pop_leaf : (kinds : List ℕ) → List ℕ → (Leaf kinds → List ℕ → Option Pending) → Option Pending
pop_leaf kinds [] f = none
pop_leaf kinds (t ∷ l) f = if_fits kinds t (λ a. f a l) none

-- the last one and those before it, if there is one
abbrev pub popped : {A : Type 0} → List A → (A → List A → Option Pending) → Option Pending
popped [] f = none
popped (x ∷ l) f = f x l

-- ---- what a word is: a token that waits, one that marks or closes, or a node
pub data TreeNode : Type 0 where
  waits : ℕ → TreeNode
  marks_distinct : ℕ → TreeNode
  marks_group : ℕ → TreeNode
  closes : ℕ → TreeNode
  makes : ℕ → TreeNode

abbrev pub node_of_kind : ℕ → ℕ → TreeNode
node_of_kind k t =
    cond (eqb k unbrace_sign) (closes t)
    (cond (eqb k distinct_word) (marks_distinct t) (cond (eqb k grouping_word) (marks_group t) (cond (ltb k 96) (waits t) (makes k))))

unfoldable pub tree_node : ℕ → TreeNode
tree_node w = node_of_kind (word_kind w) w

-- ---- what each makes of what waits
abbrev pub made_alone : ℕ → Pending → Option Pending
made_alone t s =
    popped s.groups (λ g l. if_fits (unbrace_sign ∷ []) t (λ c. some (with_groups l (with_closed (alone g c ∷ s.closed) s))) none)

abbrev pub made_column : Pending → Option Pending
made_column s =
    popped s.tokens (λ t l.
    if_fits variable_kinds t (λ v. some (with_tokens l (with_outline (with_column (plain v) s.outline) s)))
    (if_fits (star_sign ∷ []) t (λ a. some (with_tokens l (with_outline (with_star a s.outline) s))) none))

abbrev pub added_column : Leaf (opens_sign ∷ []) → Aggregate → Leaf variable_kinds → List ℕ → Pending → Option Pending
added_column b a v l s = some (with_tokens l (with_outline (with_column (aggregated b a v) s.outline) s))

abbrev pub made_aggregate : Pending → Option Pending
made_aggregate s =
    pop_leaf variable_kinds s.tokens (λ v l.
    popped l (λ x m.
    popped m (λ w n.
    pop_leaf (opens_sign ∷ []) n (λ b r.
    if_fits (count_word ∷ []) w (λ c. if_fits countables x (λ a. added_column b (counted c a) v r s) none)
    (if_fits measures w (λ c. if_fits variable_kinds x (λ a. added_column b (measured c a) v r s) none) none)))))

abbrev pub made_count_distinct : Pending → Option Pending
made_count_distinct s =
    pop_leaf variable_kinds s.tokens (λ v l.
    pop_leaf variable_kinds l (λ x m.
    pop_leaf (count_word ∷ []) m (λ c n. pop_leaf (opens_sign ∷ []) n (λ b r. added_column b (counted_distinct c x) v r s))))

abbrev pub made_triple : Pending → Option Pending
made_triple s =
    pop_leaf objects s.tokens (λ o l.
    pop_leaf verbs l (λ p m.
    pop_leaf objects m (λ a n. popped s.groups (λ g r. some (with_tokens n (with_groups (with_triple g a p o ∷ r) s))))))

-- the subject of the triple before, and its verb
abbrev pub behind_triple : GroupPattern → (GroupPattern → Leaf objects → Leaf verbs → Option Pending) → Option Pending
behind_triple (with_triple g a p o) f = f (with_triple g a p o) a p
behind_triple empty f = none
behind_triple (with_filter g w e) f = none
behind_triple (with_union g u) f = none

abbrev pub made_same_subject : Pending → Option Pending
made_same_subject s =
    pop_leaf objects s.tokens (λ o l.
    pop_leaf verbs l (λ p m.
    popped s.groups (λ g r. behind_triple g (λ h a q. some (with_tokens m (with_groups (with_triple h a p o ∷ r) s))))))

abbrev pub made_same_verb : Pending → Option Pending
made_same_verb s =
    pop_leaf objects s.tokens (λ o l.
    popped s.groups (λ g r. behind_triple g (λ h a p. some (with_tokens l (with_groups (with_triple h a p o ∷ r) s)))))

abbrev pub made_filter : Pending → Option Pending
made_filter s =
    popped s.constraints (λ e l.
    pop_leaf (filter_word ∷ []) s.tokens (λ w m.
    popped s.groups (λ g r. some (with_tokens m (with_constraints l (with_groups (with_filter g w e ∷ r) s))))))

-- the last closed group is one group
abbrev pub if_alone : GroupOrUnion → (GroupPattern → Leaf (unbrace_sign ∷ []) → Option Pending) → Option Pending
if_alone (alone g c) f = f g c
if_alone (united u g c) f = none

abbrev pub made_union : Pending → Option Pending
made_union s = popped s.closed (λ v l. if_alone v (λ g c. popped l (λ u m. some (with_closed (united u g c ∷ m) s))))

abbrev pub made_join : Pending → Option Pending
made_join s = popped s.closed (λ u l. popped s.groups (λ g r. some (with_closed l (with_groups (with_union g u ∷ r) s))))

abbrev pub made_comparison : Pending → Option Pending
made_comparison s =
    pop_leaf operands s.tokens (λ b l.
    pop_leaf comparison_signs l (λ o m.
    pop_leaf operands m (λ a n. some (with_tokens n (with_constraints (compared a o b ∷ s.constraints) s)))))

abbrev pub made_one_of : Pending → Option Pending
made_one_of s =
    pop_leaf operands s.tokens (λ a l.
    pop_leaf operands l (λ x m. some (with_tokens m (with_constraints (among x (a ∷ []) ∷ s.constraints) s))))

abbrev pub more_among : Constraint → (Leaf operands → List (Leaf operands) → Option Pending) → Option Pending
more_among (among x l) f = f x l
more_among (compared a o b) f = none
more_among (negated e) f = none
more_among (both a b) f = none
more_among (either a b) f = none

abbrev pub made_one_more : Pending → Option Pending
made_one_more s =
    pop_leaf operands s.tokens (λ b l.
    popped s.constraints (λ e m. more_among e (λ x r. some (with_tokens l (with_constraints (among x (r ++ (b ∷ [])) ∷ m) s)))))

abbrev pub made_never : Pending → Option Pending
made_never s = pop_leaf operands s.tokens (λ x l. some (with_tokens l (with_constraints (among x [] ∷ s.constraints) s)))

abbrev pub made_not : Pending → Option Pending
made_not s = popped s.constraints (λ e l. some (with_constraints (negated e ∷ l) s))

abbrev pub made_both : (Constraint → Constraint → Constraint) → Pending → Option Pending
made_both f s = popped s.constraints (λ b l. popped l (λ a m. some (with_constraints (f a b ∷ m) s)))

-- what a leaf changes in the outline
abbrev pub noted : (kinds : List ℕ) → (Leaf kinds → Outline → Outline) → Pending → Option Pending
noted kinds f s = pop_leaf kinds s.tokens (λ a l. some (with_tokens l (with_outline (f a s.outline) s)))

abbrev pub made_key_by : Pending → Option Pending
made_key_by s =
    pop_leaf variable_kinds s.tokens (λ v l.
    pop_leaf directions l (λ d m. some (with_tokens m (with_outline (with_key (directed d v) s.outline) s))))

abbrev pub made : ℕ → Pending → Option Pending
made k s =
    cond (eqb k column_node) (made_column s)
    (cond (eqb k aggregate_node) (made_aggregate s)
    (cond (eqb k count_distinct_node) (made_count_distinct s)
    (cond (eqb k from_node) (noted (year_token ∷ []) (λ y. with_source (of_year y)) s)
    (cond (eqb k open_node) (some (with_groups (empty ∷ s.groups) s))
    (cond (eqb k graph_node) (noted variable_kinds (λ v. with_source (every_year v)) s)
    (cond (eqb k triple_node) (made_triple s)
    (cond (eqb k same_subject_node) (made_same_subject s)
    (cond (eqb k same_verb_node) (made_same_verb s)
    (cond (eqb k filter_node) (made_filter s)
    (cond (eqb k union_node) (made_union s)
    (cond (eqb k join_node) (made_join s)
    (cond (eqb k compare_node) (made_comparison s)
    (cond (eqb k one_of_node) (made_one_of s)
    (cond (eqb k one_more_node) (made_one_more s)
    (cond (eqb k never_node) (made_never s)
    (cond (eqb k not_node) (made_not s)
    (cond (eqb k and_node) (made_both both s)
    (cond (eqb k or_node) (made_both either s)
    (cond (eqb k by_node) (noted variable_kinds with_name s)
    (cond (eqb k key_node) (noted variable_kinds (λ v. with_key (plain_key v)) s)
    (cond (eqb k key_by_node) (made_key_by s)
    (cond (eqb k limit_node) (noted (count_token ∷ []) with_limit s)
    (cond (eqb k offset_node) (noted (count_token ∷ []) with_offset s) none)))))))))))))))))))))))

abbrev pub taken : TreeNode → Pending → Option Pending
taken (waits t) s = some (with_tokens (t ∷ s.tokens) s)
taken (marks_distinct t) s = if_fits (distinct_word ∷ []) t (λ a. some (with_outline (with_distinct a s.outline) s)) none
taken (marks_group t) s = if_fits (grouping_word ∷ []) t (λ a. some (with_outline (with_group_word a s.outline) s)) none
taken (closes t) s = made_alone t s
taken (makes k) s = made k s

abbrev pub and_then : Option Pending → (Pending → Option Pending) → Option Pending
and_then none f = none
and_then (some s) f = f s

-- what waits after some words, or none where a word does not find what it takes
unfoldable pub built : List ℕ → Pending → Option Pending
built [] s = some s
built (w ∷ ws) s = and_then (taken (tree_node w) s) (built ws)

-- the query, if a closed group alone is left
abbrev pub query_left : List ℕ → List Constraint → List GroupPattern → List GroupOrUnion → Outline → Option Query
query_left [] [] [] (alone g c ∷ []) o = query_with o g c
query_left [] [] [] (alone g c ∷ (u ∷ l)) o = none
query_left [] [] [] (united u g c ∷ l) o = none
query_left [] [] [] [] o = none
query_left [] [] (g ∷ l) u o = none
query_left [] (e ∷ l) g u o = none
query_left (t ∷ l) e g u o = none

abbrev pub query_of : Option Pending → Option Query
query_of none = none
query_of (some s) = query_left s.tokens s.constraints s.groups s.closed s.outline

-- the tree of the words of a text
abbrev pub query_tree : List ℕ → Option Query
query_tree ws = query_of (built ws nothing_yet)
