-- Reading a condition: what it takes of the words, and what the code answers of it from the answers on the conditions inside.
use Prim.Native.Nat.{ℕ, zero, suc, ◌+◌, ◌-◌, ◌≤◌, ◌<◌}
use native.Mathlib.Omega.{arith}
use native.Mathlib.Numerals.{sub-one}
use mathlib.Core.Path.{◌≡◌, refl, sym, ◌∙◌, ap}
use mathlib.Core.Bool.{Bool, true, false, cond}
use mathlib.Core.Option.{none, some}
use mathlib.Core.List.{List, [], ◌∷◌}
use lib.Dec.{eqb}
use lib.ListN.{length, get_or, take, drop, length-drop}
use lib.Seq.{drop-drop}
use borrow.Author.Tests.{le-ltb}
use Rattle.std.specs.Prelude.{Option, None, Some, option_map}
use Rattle.std.proofs.lemmas.Option.{none-some}
use Rattle.words.specs.Words.{kind, and_kind}
use Rattle.sequences.proofs.Walking.{rest_of, rest_length}
use Rattle.plans.specs.declared.Node.{Node}
use Rattle.plans.specs.declared.Node.TheVariants.{Always, Pair, Negated, Compared, Wrong}
use Rattle.plans.specs.declared.Tree.{Tree}
use Rattle.plans.specs.Conditions.{Condition, both, either, negated, Read, next, node_of, pair_of, read_node, read_condition, nodes, all_bound}
use Rattle.plans.specs.Reading.{words_read, tree_of, comparison_tree, over_tree, join_trees, SmallTree}

-- ---- the reader, a node at a time
pub no_depth : (d : ℕ) (ws : List ℕ) → d ≡ 0 → read_condition d ws ≡ none
unfolding read_condition
no_depth zero ws h = refl
no_depth (suc d) ws h = absurd (omega arith)

pub no_words : (d : ℕ) (ws : List ℕ) → length ws ≡ 0 → read_condition d ws ≡ none
unfolding read_condition
no_words zero ws h = refl
no_words (suc d) [] h = refl
no_words (suc d) (w ∷ ws) h = absurd (omega arith)

pub at_node : (d : ℕ) (ws : List ℕ) → (d ≡ 0 → ⊥) → (length ws ≡ 0 → ⊥)
    → read_condition d ws ≡ read_node (node_of (get_or ws 0 0)) (read_condition (d - 1)) (get_or ws 0 0) (drop 1 ws)
unfolding read_condition
at_node zero ws h g = absurd (h refl)
at_node (suc d) [] h g = absurd (g refl)
at_node (suc d) (w ∷ ws) h g = rw sub-one

-- ---- a condition takes no more words than there are, and has no more nodes than words
abbrev pub Fits : Read Condition → ℕ → Type 0
Fits none len = Unit {0}
Fits (some x) len = (x.1 ≤ len) × (nodes x.0 ≤ x.1)

not_fits : (x : Read Condition) (len : ℕ) → Fits x len → Fits (next x (λ y. some (negated y.0, 1 + y.1))) (suc len)
unfolding nodes
not_fits none len h = tt
not_fits (some x) len h = (omega arith, omega arith)

pair_nodes : (t : Bool) (a b : Condition) → nodes (cond t (both a b) (either a b)) ≡ 1 + nodes a + nodes b
unfolding nodes
pair_nodes true a b = refl
pair_nodes false a b = refl

second_fits : (w m : ℕ) (a : Condition) (y : Read Condition) (len : ℕ) → m ≤ len → nodes a ≤ m → Fits y (len - m)
    → Fits (next y (λ y. some (pair_of w a y.0, 1 + m + y.1))) (suc len)
second_fits w m a none len hm ha h = tt
second_fits w m a (some y) len hm ha h =
    let e = pair_nodes (eqb (kind w) and_kind) a y.0 in (omega arith, omega arith)

module _ (inner : List ℕ → Read Condition) (fit : (ws : List ℕ) → Fits (inner ws) (length ws)) where
  pair_fits : (w : ℕ) (ws : List ℕ) (x : Read Condition) → Fits x (length ws)
      → Fits (next x (λ x. next (inner (drop x.1 ws)) (λ y. some (pair_of w x.0 y.0, 1 + x.1 + y.1)))) (suc (length ws))
  pair_fits w ws none h = tt
  pair_fits w ws (some x) h =
      second_fits w x.1 x.0 (inner (drop x.1 ws)) (length ws) h.0 h.1 (rw length-drop at (fit (drop x.1 ws)))

  node_fits : (n : Node) (w : ℕ) (ws : List ℕ) → Fits (read_node n inner w ws) (suc (length ws))
  unfolding read_node nodes
  node_fits Always w ws = (omega arith, omega arith)
  node_fits Pair w ws = pair_fits w ws (inner ws) (fit ws)
  node_fits Negated w ws = not_fits (inner ws) (length ws) (fit ws)
  node_fits Compared w [] = tt
  node_fits Compared w (l ∷ []) = tt
  node_fits Compared w (l ∷ r ∷ ws) = (omega arith, omega arith)
  node_fits Wrong w ws = tt

pub fits : (d : ℕ) (ws : List ℕ) → Fits (read_condition d ws) (length ws)
unfolding read_condition
fits zero ws = tt
fits (suc d) [] = tt
fits (suc d) (w ∷ ws) = node_fits (read_condition d) (fits d) (node_of w) w ws

-- ---- the words of an answer, and its nodes
answer_words : Option Tree → ℕ
answer_words None = 0
answer_words (Some a) = a.words

answer_nodes : Option Tree → ℕ
answer_nodes None = 0
answer_nodes (Some a) = a.nodes

answer_fits : (ts : List ℕ) (x : Read Condition) (len : ℕ) (a : Tree) → Fits x len → tree_of ts x ≡ Some a → (a.words ≤ len) × (a.nodes ≤ a.words)
unfolding answer_words answer_nodes
answer_fits ts none len a h e = absurd (none-some a e)
answer_fits ts (some x) len a h e =
    let w : x.1 ≡ a.words = ap answer_words e in let n : nodes x.0 ≡ a.nodes = ap answer_nodes e in (omega arith, omega arith)

pub unread_words : (ts : List ℕ) (r : Read Condition) → tree_of ts r ≡ None → words_read r ≡ 0
unread_words ts none e = refl
unread_words ts (some x) e = cc

pub tree_words_read : (ts : List ℕ) (r : Read Condition) (a : Tree) → tree_of ts r ≡ Some a → words_read r ≡ a.words
unfolding answer_words
tree_words_read ts none a e = absurd (none-some a e)
tree_words_read ts (some x) a e = ap answer_words e

module _ (ts : List ℕ) (d : ℕ) (ws : List ℕ) (l : Option Tree) (el : l ≡ tree_of ts (read_condition d ws)) (a : Tree) (e : l ≡ Some a) where
  tree_fits : (a.words ≤ length ws) × (a.nodes ≤ a.words)
  tree_fits = answer_fits ts (read_condition d ws) (length ws) a (fits d ws) (sym el ∙ e)

  -- they can be added up
  pub tree_small : length ws < 0x2000_0000_0000_0000 → SmallTree a
  tree_small b = let f = tree_fits in (omega arith, omega arith)

  pub tree_words : a.words ≤ length ws
  tree_words = tree_fits.0

-- the same of a part that is read from a place on
pub part_small : (ts : List ℕ) (d : ℕ) (ws : List ℕ) (at : ℕ) (l : Option Tree)
    → l ≡ tree_of ts (read_condition d (take (length ws - at) (drop at ws))) → (a : Tree) → l ≡ Some a
    → length ws < 0x2000_0000_0000_0000 → SmallTree a
part_small ts d ws at l el a e b = tree_small ts d (take (length ws - at) (drop at ws)) l el a e (omega (arith, rest_length ws at))

module _ (ts : List ℕ) where
  -- ---- what is answered of a node, from what is answered of those inside
  over_of : (x : Read Condition) → tree_of ts (next x (λ y. some (negated y.0, 1 + y.1))) ≡ option_map over_tree (tree_of ts x)
  unfolding nodes all_bound
  over_of none = refl
  over_of (some x) = refl

  abbrev whole : Condition → ℕ → Tree
  whole a m = record { words = m; nodes = nodes a; bound = all_bound ts a }

  pair_tree_lem : (t : Bool) (a b : Condition) (m n : ℕ)
      → tree_of ts (some (cond t (both a b) (either a b), 1 + m + n)) ≡ Some (join_trees (whole a m) (whole b n))
  unfolding nodes all_bound
  pair_tree_lem true a b m n = refl
  pair_tree_lem false a b m n = refl

  second_of : (w m : ℕ) (a : Condition) (y : Read Condition)
      → tree_of ts (next y (λ y. some (pair_of w a y.0, 1 + m + y.1))) ≡ option_map (join_trees (whole a m)) (tree_of ts y)
  second_of w m a none = refl
  second_of w m a (some y) = pair_tree_lem (eqb (kind w) and_kind) a y.0 m y.1

  -- two conditions, the second read where the first ends
  abbrev pub pair_tree : Option Tree → (ℕ → Option Tree) → Option Tree
  pair_tree None f = None
  pair_tree (Some a) f = option_map (join_trees a) (f a.words)

  pair_of_lem : (w : ℕ) (inner : List ℕ → Read Condition) (ws : List ℕ) (x : Read Condition)
      → tree_of ts (next x (λ x. next (inner (drop x.1 ws)) (λ y. some (pair_of w x.0 y.0, 1 + x.1 + y.1))))
      ≡ pair_tree (tree_of ts x) (λ m. tree_of ts (inner (drop m ws)))
  pair_of_lem w inner ws none = refl
  pair_of_lem w inner ws (some x) = second_of w x.1 x.0 (inner (drop x.1 ws))

  compared_of : (inner : List ℕ → Read Condition) (w : ℕ) (ws : List ℕ)
      → tree_of ts (read_node Compared inner w (drop 1 ws)) ≡ comparison_tree ts ws
  unfolding read_node nodes all_bound
  compared_of inner w [] = refl
  compared_of inner w (a ∷ []) = refl
  compared_of inner w (a ∷ s ∷ []) = refl
  compared_of inner w (a ∷ s ∷ t ∷ ws) = rw (le-ltb (length (a ∷ s ∷ t ∷ ws)) 3 (omega arith))

  -- ---- the answer, by what the first word begins
  module _ (d : ℕ) (ws : List ℕ) (hd : d ≡ 0 → ⊥) (hw : length ws ≡ 0 → ⊥) (t : Node) (et : t ≡ node_of (get_or ws 0 0)) where
    here : (k : Node) → t ≡ k → read_condition d ws ≡ read_node k (read_condition (d - 1)) (get_or ws 0 0) (drop 1 ws)
    here k e = at_node d ws hd hw ∙ rw (← et, e)

    pub at_wrong : t ≡ Wrong → tree_of ts (read_condition d ws) ≡ None
    unfolding read_node
    at_wrong e = rw (here Wrong e)

    pub at_always : t ≡ Always → tree_of ts (read_condition d ws) ≡ Some (record { words = 1; nodes = 1; bound = true })
    unfolding read_node nodes all_bound
    at_always e = rw (here Always e)

    pub at_compared : t ≡ Compared → tree_of ts (read_condition d ws) ≡ comparison_tree ts ws
    at_compared e = rw (here Compared e) (compared_of (read_condition (d - 1)) (get_or ws 0 0) ws)

    module _ (l : Option Tree) (el : l ≡ tree_of ts (read_condition (d - 1) (take (length ws - 1) (drop 1 ws)))) where
      first : tree_of ts (read_condition (d - 1) (drop 1 ws)) ≡ l
      first = sym (el ∙ rw rest_of)

      pub first_words : (a : Tree) → l ≡ Some a → 1 + a.words ≤ length ws
      first_words a e = omega (arith, hw, rest_length ws 1, tree_words ts (d - 1) (take (length ws - 1) (drop 1 ws)) l el a e)

      pub at_not : t ≡ Negated → tree_of ts (read_condition d ws) ≡ option_map over_tree l
      unfolding read_node
      at_not e = rw (here Negated e, over_of, first)

      at_pair : t ≡ Pair → tree_of ts (read_condition d ws) ≡ pair_tree l (λ m. tree_of ts (read_condition (d - 1) (drop m (drop 1 ws))))
      unfolding read_node
      at_pair e =
          rw (here Pair e, pair_of_lem (get_or ws 0 0) (read_condition (d - 1)) (drop 1 ws) (read_condition (d - 1) (drop 1 ws)), first)

      pub at_half : t ≡ Pair → l ≡ None → tree_of ts (read_condition d ws) ≡ None
      at_half e b = at_pair e ∙ rw b

      pub at_two : t ≡ Pair → (a : Tree) → l ≡ Some a
          → (r : Option Tree) → r ≡ tree_of ts (read_condition (d - 1) (take (length ws - (1 + a.words)) (drop (1 + a.words) ws)))
          → tree_of ts (read_condition d ws) ≡ option_map (join_trees a) r
      at_two e a el r er =
          at_pair e ∙ rw (el, er, rest_of, drop-drop)
