-- The words of a condition, of a group or of groups in braces are built to that tree.
use Prim.Native.Nat.{ℕ}
use mathlib.Core.Bool.{Bool, true, false}
use mathlib.Core.Path.{◌≡◌, refl, sym, ◌∙◌, ap}
use mathlib.Core.Option.{Option, none, some}
use mathlib.Core.List.{List, [], ◌∷◌, ◌++◌, append_assoc, append-nil}
use lib.Dec.{T}
use Rattle.tokens.specs.Classes.{is_one_of}
use Rattle.syntax.specs.Kinds.{operands, objects, verbs, comparison_signs, filter_word, unbrace_sign, open_node, triple_node, filter_node, union_node}
use Rattle.syntax.specs.Kinds.{join_node, compare_node, one_of_node, one_more_node, never_node, not_node, and_node, or_node}
use Rattle.syntax.specs.Machine.{word_kind}
use Rattle.syntax.specs.Trees.{Leaf, Constraint, compared, among, negated, both, either}
use Rattle.syntax.specs.Trees.{GroupPattern, empty, with_triple, with_filter, with_union, GroupOrUnion, alone, united}
use Rattle.syntax.specs.Shown.{members_words, constraint_words, parts_words, union_words}
use Rattle.syntax.specs.Outlines.{Outline}
use Rattle.syntax.specs.Building.{Pending, waits, closes, node_of_kind, tree_node, by_fit, if_fits, pop_leaf, taken, built}
use Rattle.syntax_trees.proofs.Reading.{AtKinds, at_kinds}

-- ---- leaves
fits_again : {A : Type 0} (ks : List ℕ) (t : ℕ) (b : Bool) (g : T b → T (is_one_of ks (word_kind t))) (x : T b) (f : Leaf ks → A) (d : A)
    → by_fit ks t b g f d ≡ f (record { token = t; fits = g x })
fits_again ks t true g x f d = refl
fits_again ks t false g x f d = absurd x

pub leaf_fits : {A : Type 0} (ks : List ℕ) (a : Leaf ks) (f : Leaf ks → A) (d : A) → if_fits ks a.token f d ≡ f a
unfolding if_fits
leaf_fits ks a f d = fits_again ks a.token (is_one_of ks (word_kind a.token)) (λ x. x) a.fits f d

pub leaf_popped : (ks : List ℕ) (a : Leaf ks) (l : List ℕ) (f : Leaf ks → List ℕ → Option Pending) → pop_leaf ks (a.token ∷ l) f ≡ f a l
unfolding pop_leaf
leaf_popped ks a l f = leaf_fits ks a (λ b. f b l) none

-- ---- a word
abbrev pub pending : List ℕ → List Constraint → List GroupPattern → List GroupOrUnion → Outline → Pending
pending ts cs gs us o = record { tokens = ts; constraints = cs; groups = gs; closed = us; outline = o }

pub word_built : (w : ℕ) (ws : List ℕ) (s s' : Pending) → taken (tree_node w) s ≡ some s' → built (w ∷ ws) s ≡ built ws s'
unfolding built
word_built w ws s s' e = rw e

pub built_behind : (xs ys zs : List ℕ) (s : Pending) → built ((xs ++ ys) ++ zs) s ≡ built (xs ++ (ys ++ zs)) s
built_behind xs ys zs s = ap (λ l. built l s) (append_assoc xs ys zs)

abbrev pub Waits : ℕ → Type 0
Waits k = (t : ℕ) → node_of_kind k t ≡ waits t

-- the tokens that wait, and the brace that closes
module _ (ts : List ℕ) (cs : List Constraint) (gs : List GroupPattern) (us : List GroupOrUnion) (o : Outline) where
  pub leaf_built : (ks : List ℕ) → AtKinds Waits ks → (a : Leaf ks) (ws : List ℕ)
      → built (a.token ∷ ws) (pending ts cs gs us o) ≡ built ws (pending (a.token ∷ ts) cs gs us o)
  unfolding tree_node
  leaf_built ks h a ws =
      word_built a.token ws (pending ts cs gs us o) (pending (a.token ∷ ts) cs gs us o)
      (ap (λ n. taken n (pending ts cs gs us o)) (at_kinds Waits ks h (word_kind a.token) a.fits a.token))

  pub operand_built : (a : Leaf operands) (ws : List ℕ)
      → built (a.token ∷ ws) (pending ts cs gs us o) ≡ built ws (pending (a.token ∷ ts) cs gs us o)
  operand_built a ws =
      leaf_built operands
      ((λ t. refl), ((λ t. refl), ((λ t. refl), ((λ t. refl), ((λ t. refl), ((λ t. refl), ((λ t. refl), ((λ t. refl), tt)))))))) a ws

  pub object_built : (a : Leaf objects) (ws : List ℕ)
      → built (a.token ∷ ws) (pending ts cs gs us o) ≡ built ws (pending (a.token ∷ ts) cs gs us o)
  object_built a ws =
      leaf_built objects ((λ t. refl), ((λ t. refl), ((λ t. refl), ((λ t. refl), ((λ t. refl), ((λ t. refl), tt)))))) a ws

  pub verb_built : (a : Leaf verbs) (ws : List ℕ)
      → built (a.token ∷ ws) (pending ts cs gs us o) ≡ built ws (pending (a.token ∷ ts) cs gs us o)
  verb_built a ws = leaf_built verbs ((λ t. refl), ((λ t. refl), ((λ t. refl), tt))) a ws

  sign_built : (a : Leaf comparison_signs) (ws : List ℕ)
      → built (a.token ∷ ws) (pending ts cs gs us o) ≡ built ws (pending (a.token ∷ ts) cs gs us o)
  sign_built a ws =
      leaf_built comparison_signs ((λ t. refl), ((λ t. refl), ((λ t. refl), ((λ t. refl), ((λ t. refl), ((λ t. refl), tt)))))) a ws

  pub closing_built : (g : GroupPattern) (c : Leaf (unbrace_sign ∷ [])) (ws : List ℕ)
      → built (c.token ∷ ws) (pending ts cs (g ∷ gs) us o) ≡ built ws (pending ts cs gs (alone g c ∷ us) o)
  unfolding tree_node
  closing_built g c ws =
      word_built c.token ws (pending ts cs (g ∷ gs) us o) (pending ts cs gs (alone g c ∷ us) o)
      (ap (λ n. taken n (pending ts cs (g ∷ gs) us o))
      (at_kinds (λ k. (t : ℕ) → node_of_kind k t ≡ closes t) (unbrace_sign ∷ []) ((λ t. refl), tt) (word_kind c.token) c.fits c.token)
      ∙ leaf_fits (unbrace_sign ∷ []) c (λ d. some (pending ts cs gs (alone g d ∷ us) o)) none)

  -- ---- nodes
  compare_built : (a : Leaf operands) (x : Leaf comparison_signs) (b : Leaf operands) (ws : List ℕ)
      → built (compare_node ∷ ws) (pending (b.token ∷ x.token ∷ a.token ∷ ts) cs gs us o) ≡ built ws (pending ts (compared a x b ∷ cs) gs us o)
  unfolding tree_node
  compare_built a x b ws =
      word_built compare_node ws (pending (b.token ∷ x.token ∷ a.token ∷ ts) cs gs us o) (pending ts (compared a x b ∷ cs) gs us o)
      (leaf_popped operands b (x.token ∷ a.token ∷ ts) _ ∙ leaf_popped comparison_signs x (a.token ∷ ts) _ ∙ leaf_popped operands a ts _)

  one_of_built : (x a : Leaf operands) (ws : List ℕ)
      → built (one_of_node ∷ ws) (pending (a.token ∷ x.token ∷ ts) cs gs us o) ≡ built ws (pending ts (among x (a ∷ []) ∷ cs) gs us o)
  unfolding tree_node
  one_of_built x a ws =
      word_built one_of_node ws (pending (a.token ∷ x.token ∷ ts) cs gs us o) (pending ts (among x (a ∷ []) ∷ cs) gs us o)
      (leaf_popped operands a (x.token ∷ ts) _ ∙ leaf_popped operands x ts _)

  one_more_built : (x : Leaf operands) (r : List (Leaf operands)) (b : Leaf operands) (ws : List ℕ)
      → built (one_more_node ∷ ws) (pending (b.token ∷ ts) (among x r ∷ cs) gs us o) ≡ built ws (pending ts (among x (r ++ (b ∷ [])) ∷ cs) gs us o)
  unfolding tree_node
  one_more_built x r b ws =
      word_built one_more_node ws (pending (b.token ∷ ts) (among x r ∷ cs) gs us o) (pending ts (among x (r ++ (b ∷ [])) ∷ cs) gs us o)
      (leaf_popped operands b ts _)

  never_built : (x : Leaf operands) (ws : List ℕ)
      → built (never_node ∷ ws) (pending (x.token ∷ ts) cs gs us o) ≡ built ws (pending ts (among x [] ∷ cs) gs us o)
  unfolding tree_node
  never_built x ws =
      word_built never_node ws (pending (x.token ∷ ts) cs gs us o) (pending ts (among x [] ∷ cs) gs us o) (leaf_popped operands x ts _)

  triple_built : (g : GroupPattern) (a : Leaf objects) (p : Leaf verbs) (b : Leaf objects) (ws : List ℕ)
      → built (triple_node ∷ ws) (pending (b.token ∷ p.token ∷ a.token ∷ ts) cs (g ∷ gs) us o)
      ≡ built ws (pending ts cs (with_triple g a p b ∷ gs) us o)
  unfolding tree_node
  triple_built g a p b ws =
      word_built triple_node ws (pending (b.token ∷ p.token ∷ a.token ∷ ts) cs (g ∷ gs) us o) (pending ts cs (with_triple g a p b ∷ gs) us o)
      (leaf_popped objects b (p.token ∷ a.token ∷ ts) _ ∙ leaf_popped verbs p (a.token ∷ ts) _ ∙ leaf_popped objects a ts _)

  filter_built : (g : GroupPattern) (w : Leaf (filter_word ∷ [])) (e : Constraint) (ws : List ℕ)
      → built (filter_node ∷ ws) (pending (w.token ∷ ts) (e ∷ cs) (g ∷ gs) us o) ≡ built ws (pending ts cs (with_filter g w e ∷ gs) us o)
  unfolding tree_node
  filter_built g w e ws =
      word_built filter_node ws (pending (w.token ∷ ts) (e ∷ cs) (g ∷ gs) us o) (pending ts cs (with_filter g w e ∷ gs) us o)
      (leaf_popped (filter_word ∷ []) w ts _)

-- ---- conditions
members_built : (l : List (Leaf operands)) (x : Leaf operands) (r : List (Leaf operands)) (ws ts : List ℕ) (cs : List Constraint)
    (gs : List GroupPattern) (us : List GroupOrUnion) (o : Outline)
    → built (members_words l ++ ws) (pending ts (among x r ∷ cs) gs us o) ≡ built ws (pending ts (among x (r ++ l) ∷ cs) gs us o)
members_built [] x r ws ts cs gs us o = ap (λ z. built ws (pending ts (among x z ∷ cs) gs us o)) (sym (append-nil r))
members_built (b ∷ l) x r ws ts cs gs us o =
    operand_built ts (among x r ∷ cs) gs us o b (one_more_node ∷ (members_words l ++ ws))
    ∙ one_more_built ts cs gs us o x r b (members_words l ++ ws)
    ∙ members_built l x (r ++ (b ∷ [])) ws ts cs gs us o
    ∙ ap (λ z. built ws (pending ts (among x z ∷ cs) gs us o)) (append_assoc r (b ∷ []) l)

pub constraint_built : (e : Constraint) (ws ts : List ℕ) (cs : List Constraint) (gs : List GroupPattern) (us : List GroupOrUnion) (o : Outline)
    → built (constraint_words e ++ ws) (pending ts cs gs us o) ≡ built ws (pending ts (e ∷ cs) gs us o)
unfolding constraint_words built tree_node
constraint_built (compared a x b) ws ts cs gs us o =
    operand_built ts cs gs us o a (x.token ∷ b.token ∷ compare_node ∷ ws)
    ∙ sign_built (a.token ∷ ts) cs gs us o x (b.token ∷ compare_node ∷ ws)
    ∙ operand_built (x.token ∷ a.token ∷ ts) cs gs us o b (compare_node ∷ ws)
    ∙ compare_built ts cs gs us o a x b ws
constraint_built (among x []) ws ts cs gs us o =
    operand_built ts cs gs us o x (never_node ∷ ws) ∙ never_built ts cs gs us o x ws
constraint_built (among x (a ∷ l)) ws ts cs gs us o =
    operand_built ts cs gs us o x (a.token ∷ one_of_node ∷ (members_words l ++ ws))
    ∙ operand_built (x.token ∷ ts) cs gs us o a (one_of_node ∷ (members_words l ++ ws))
    ∙ one_of_built ts cs gs us o x a (members_words l ++ ws)
    ∙ members_built l x (a ∷ []) ws ts cs gs us o
constraint_built (negated e) ws ts cs gs us o =
    built_behind (constraint_words e) (not_node ∷ []) ws (pending ts cs gs us o) ∙ constraint_built e (not_node ∷ ws) ts cs gs us o
constraint_built (both a b) ws ts cs gs us o =
    built_behind (constraint_words a) (constraint_words b ++ (and_node ∷ [])) ws (pending ts cs gs us o)
    ∙ constraint_built a ((constraint_words b ++ (and_node ∷ [])) ++ ws) ts cs gs us o
    ∙ built_behind (constraint_words b) (and_node ∷ []) ws (pending ts (a ∷ cs) gs us o)
    ∙ constraint_built b (and_node ∷ ws) ts (a ∷ cs) gs us o
constraint_built (either a b) ws ts cs gs us o =
    built_behind (constraint_words a) (constraint_words b ++ (or_node ∷ [])) ws (pending ts cs gs us o)
    ∙ constraint_built a ((constraint_words b ++ (or_node ∷ [])) ++ ws) ts cs gs us o
    ∙ built_behind (constraint_words b) (or_node ∷ []) ws (pending ts (a ∷ cs) gs us o)
    ∙ constraint_built b (or_node ∷ ws) ts (a ∷ cs) gs us o

-- ---- groups
mutual
  unfolding parts_words built tree_node

  pub parts_built : (g : GroupPattern) (ws ts : List ℕ) (cs : List Constraint) (gs : List GroupPattern) (us : List GroupOrUnion) (o : Outline)
      → built (parts_words g ++ ws) (pending ts cs (empty ∷ gs) us o) ≡ built ws (pending ts cs (g ∷ gs) us o)
  parts_built empty ws ts cs gs us o = refl
  parts_built (with_triple g a p b) ws ts cs gs us o =
      built_behind (parts_words g) (a.token ∷ p.token ∷ b.token ∷ triple_node ∷ []) ws (pending ts cs (empty ∷ gs) us o)
      ∙ parts_built g (a.token ∷ p.token ∷ b.token ∷ triple_node ∷ ws) ts cs gs us o
      ∙ object_built ts cs (g ∷ gs) us o a (p.token ∷ b.token ∷ triple_node ∷ ws)
      ∙ verb_built (a.token ∷ ts) cs (g ∷ gs) us o p (b.token ∷ triple_node ∷ ws)
      ∙ object_built (p.token ∷ a.token ∷ ts) cs (g ∷ gs) us o b (triple_node ∷ ws)
      ∙ triple_built ts cs gs us o g a p b ws
  parts_built (with_filter g w e) ws ts cs gs us o =
      built_behind (parts_words g) (w.token ∷ (constraint_words e ++ (filter_node ∷ []))) ws (pending ts cs (empty ∷ gs) us o)
      ∙ parts_built g (w.token ∷ ((constraint_words e ++ (filter_node ∷ [])) ++ ws)) ts cs gs us o
      ∙ leaf_built ts cs (g ∷ gs) us o (filter_word ∷ []) ((λ t. refl), tt) w ((constraint_words e ++ (filter_node ∷ [])) ++ ws)
      ∙ built_behind (constraint_words e) (filter_node ∷ []) ws (pending (w.token ∷ ts) cs (g ∷ gs) us o)
      ∙ constraint_built e (filter_node ∷ ws) (w.token ∷ ts) cs (g ∷ gs) us o
      ∙ filter_built ts cs gs us o g w e ws
  parts_built (with_union g u) ws ts cs gs us o =
      built_behind (parts_words g) (union_words u ++ (join_node ∷ [])) ws (pending ts cs (empty ∷ gs) us o)
      ∙ parts_built g ((union_words u ++ (join_node ∷ [])) ++ ws) ts cs gs us o
      ∙ built_behind (union_words u) (join_node ∷ []) ws (pending ts cs (g ∷ gs) us o)
      ∙ union_built u (join_node ∷ ws) ts cs (g ∷ gs) us o

  pub union_built : (u : GroupOrUnion) (ws ts : List ℕ) (cs : List Constraint) (gs : List GroupPattern) (us : List GroupOrUnion) (o : Outline)
      → built (union_words u ++ ws) (pending ts cs gs us o) ≡ built ws (pending ts cs gs (u ∷ us) o)
  union_built (alone g c) ws ts cs gs us o =
      built_behind (parts_words g) (c.token ∷ []) ws (pending ts cs (empty ∷ gs) us o)
      ∙ parts_built g (c.token ∷ ws) ts cs gs us o
      ∙ closing_built ts cs gs us o g c ws
  union_built (united u g c) ws ts cs gs us o =
      built_behind (union_words u) (open_node ∷ (parts_words g ++ (c.token ∷ union_node ∷ []))) ws (pending ts cs gs us o)
      ∙ union_built u (open_node ∷ ((parts_words g ++ (c.token ∷ union_node ∷ [])) ++ ws)) ts cs gs us o
      ∙ built_behind (parts_words g) (c.token ∷ union_node ∷ []) ws (pending ts cs (empty ∷ gs) (u ∷ us) o)
      ∙ parts_built g (c.token ∷ union_node ∷ ws) ts cs gs (u ∷ us) o
      ∙ closing_built ts cs gs (u ∷ us) o g c (union_node ∷ ws)
