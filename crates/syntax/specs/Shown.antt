-- The words of a tree, and the tokens that it is shown as. Assumes nothing: these are definitions.
use Rattle.std.specs.Prelude.{ℕ, Bool, true, false, List, [], ◌∷◌, ◌++◌, ltb}
use Rattle.tokens.specs.Classes.{is_one_of}
use Rattle.syntax.specs.Kinds.{operands, typed_operands, typing_token, name_token, union_word, in_word, brace_sign, opens_sign, closes_sign, dot_sign}
use Rattle.syntax.specs.Kinds.{comma_sign, and_sign, or_sign, not_sign, open_node, triple_node, filter_node, union_node, join_node, compare_node}
use Rattle.syntax.specs.Kinds.{one_of_node, one_more_node, never_node, not_node, and_node, or_node}
use Rattle.syntax.specs.Machine.{word_kind}
use Rattle.syntax.specs.Trees.{Leaf, Constraint, compared, among, negated, both, either}
use Rattle.syntax.specs.Trees.{GroupPattern, empty, with_triple, with_filter, with_union, GroupOrUnion, alone, united}

-- ---- words: what is in a node, and then the node
abbrev pub members_words : List (Leaf operands) → List ℕ
members_words [] = []
members_words (a ∷ l) = a.token ∷ one_more_node ∷ members_words l

abbrev pub among_words : Leaf operands → List (Leaf operands) → List ℕ
among_words x [] = x.token ∷ never_node ∷ []
among_words x (a ∷ l) = x.token ∷ a.token ∷ one_of_node ∷ members_words l

unfoldable pub constraint_words : Constraint → List ℕ
constraint_words (compared a o b) = a.token ∷ o.token ∷ b.token ∷ compare_node ∷ []
constraint_words (among x l) = among_words x l
constraint_words (negated e) = constraint_words e ++ (not_node ∷ [])
constraint_words (both a b) = constraint_words a ++ (constraint_words b ++ (and_node ∷ []))
constraint_words (either a b) = constraint_words a ++ (constraint_words b ++ (or_node ∷ []))

unfoldable mutual
  pub parts_words : GroupPattern → List ℕ
  parts_words empty = []
  parts_words (with_triple g s p o) = parts_words g ++ (s.token ∷ p.token ∷ o.token ∷ triple_node ∷ [])
  parts_words (with_filter g f e) = parts_words g ++ (f.token ∷ (constraint_words e ++ (filter_node ∷ [])))
  parts_words (with_union g u) = parts_words g ++ (union_words u ++ (join_node ∷ []))

  pub union_words : GroupOrUnion → List ℕ
  union_words (alone g c) = open_node ∷ (parts_words g ++ (c.token ∷ []))
  union_words (united u g c) = union_words u ++ (open_node ∷ (parts_words g ++ (c.token ∷ union_node ∷ [])))

-- ---- tokens: a text with a datatype is three
abbrev pub type_shown : Bool → List ℕ
type_shown true = typing_token ∷ name_token ∷ []
type_shown false = []

abbrev pub leaf_shown : ℕ → List ℕ
leaf_shown t = t ∷ type_shown (is_one_of typed_operands (word_kind t))

-- how tight a condition holds together: "or" the least, then "and"
abbrev pub tightness : Constraint → ℕ
tightness (compared a o b) = 2
tightness (among x l) = 2
tightness (negated e) = 2
tightness (both a b) = 1
tightness (either a b) = 0

-- in brackets where it is looser than it has to be
abbrev pub bracketed : Bool → List ℕ → List ℕ
bracketed true ts = opens_sign ∷ (ts ++ (closes_sign ∷ []))
bracketed false ts = ts

abbrev pub members_shown : List (Leaf operands) → List ℕ
members_shown [] = closes_sign ∷ []
members_shown (a ∷ l) = comma_sign ∷ (leaf_shown a.token ++ members_shown l)

abbrev pub among_shown : List (Leaf operands) → List ℕ
among_shown [] = closes_sign ∷ []
among_shown (a ∷ l) = leaf_shown a.token ++ members_shown l

-- the tokens of a condition, with as few brackets as can be
unfoldable pub constraint_shown : Constraint → List ℕ
constraint_shown (compared a o b) = leaf_shown a.token ++ (o.token ∷ leaf_shown b.token)
constraint_shown (among x l) = leaf_shown x.token ++ (in_word ∷ opens_sign ∷ among_shown l)
constraint_shown (negated e) = not_sign ∷ opens_sign ∷ (constraint_shown e ++ (closes_sign ∷ []))
constraint_shown (both a b) =
    bracketed (ltb (tightness a) 1) (constraint_shown a) ++ (and_sign ∷ bracketed (ltb (tightness b) 2) (constraint_shown b))
constraint_shown (either a b) = constraint_shown a ++ (or_sign ∷ bracketed (ltb (tightness b) 1) (constraint_shown b))

unfoldable mutual
  pub parts_shown : GroupPattern → List ℕ
  parts_shown empty = []
  parts_shown (with_triple g s p o) = parts_shown g ++ (leaf_shown s.token ++ (p.token ∷ (leaf_shown o.token ++ (dot_sign ∷ []))))
  parts_shown (with_filter g f e) = parts_shown g ++ (f.token ∷ opens_sign ∷ (constraint_shown e ++ (closes_sign ∷ [])))
  parts_shown (with_union g u) = parts_shown g ++ union_shown u

  pub union_shown : GroupOrUnion → List ℕ
  union_shown (alone g c) = brace_sign ∷ (parts_shown g ++ (c.token ∷ []))
  union_shown (united u g c) = union_shown u ++ (union_word ∷ brace_sign ∷ (parts_shown g ++ (c.token ∷ [])))
