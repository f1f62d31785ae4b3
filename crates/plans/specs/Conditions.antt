-- Conditions: the tree that a condition's words stand for, and its reader. Assumes nothing: these are definitions.
use Rattle.std.specs.Prelude.{ℕ, zero, suc, ◌+◌, Bool, true, cond, ◌&&◌, ◌||◌, not, List, [], ◌∷◌, eqb, leb, drop}
use Rattle.std.proofs.Math.Option.{Option, none, some}
use Rattle.words.specs.Words.{kind, low, is_variable, true_kind, and_kind, or_kind, not_kind, comparison_kind, last_operator}
use Rattle.sequences.specs.Sequences.{member}
use Rattle.plans.specs.declared.Node.{Node}
use Rattle.plans.specs.declared.Node.TheVariants.{Always, Pair, Negated, Compared, Wrong}

-- a comparison holds its number, 0 to 5, and two terms, which stand as their words
pub data Condition : Type 0 where
  always : Condition
  both : Condition → Condition → Condition
  either : Condition → Condition → Condition
  negated : Condition → Condition
  compared : ℕ → ℕ → ℕ → Condition

-- what was read, and how many words it takes; none where the words have not the form
abbrev pub Read : Type 0 → Type 0
Read A = Option (A × ℕ)

-- what comes after a part that may not be there
abbrev pub next {ℓ κ} : {A : Type ℓ} {B : Type κ} → Option A → (A → Option B) → Option B
next none f = none
next (some a) f = f a

-- the node that a word begins: kind 7 with a number from 0 to 5, or one of the kinds 3 to 6 with low bits 0
abbrev pub plain_node : ℕ → Node
plain_node k =
    cond (eqb k true_kind) Always
    (cond (eqb k and_kind) Pair (cond (eqb k or_kind) Pair (cond (eqb k not_kind) Negated Wrong)))

unfoldable pub node_of : ℕ → Node
node_of w =
    cond (eqb (kind w) comparison_kind)
    (cond (leb (low w) last_operator) Compared Wrong)
    (cond (eqb (low w) 0) (plain_node (kind w)) Wrong)

-- two conditions under a word of kind 4, or of kind 5
abbrev pub pair_of : ℕ → Condition → Condition → Condition
pair_of w a b = cond (eqb (kind w) and_kind) (both a b) (either a b)

-- the words of a comparison: its own, and two terms
abbrev pub comparison_words : ℕ
comparison_words = 3

-- a node: what its first word begins, the reader of the conditions in it, that word, and the words after it
unfoldable pub read_node : Node → (List ℕ → Read Condition) → ℕ → List ℕ → Read Condition
read_node Always inner w ws = some (always, 1)
read_node Pair inner w ws =
    next (inner ws) (λ x. next (inner (drop x.1 ws)) (λ y. some (pair_of w x.0 y.0, 1 + x.1 + y.1)))
read_node Negated inner w ws = next (inner ws) (λ x. some (negated x.0, 1 + x.1))
read_node Compared inner w [] = none
read_node Compared inner w (l ∷ []) = none
read_node Compared inner w (l ∷ r ∷ ws) = some (compared (low w) l r, comparison_words)
read_node Wrong inner w ws = none

-- a condition that is at most a number of nodes deep, a lone node being 1 deep
unfoldable pub read_condition : ℕ → List ℕ → Read Condition
read_condition zero ws = none
read_condition (suc depth) [] = none
read_condition (suc depth) (w ∷ ws) = read_node (node_of w) (read_condition depth) w ws

abbrev pub most_depth : ℕ
most_depth = 8

abbrev pub most_nodes : ℕ
most_nodes = 31

unfoldable pub nodes : Condition → ℕ
nodes always = 1
nodes (both a b) = 1 + nodes a + nodes b
nodes (either a b) = 1 + nodes a + nodes b
nodes (negated a) = 1 + nodes a
nodes (compared o l r) = 1

-- ---- the variables of a condition
-- a term is no variable, or among its branch's terms
abbrev pub bound_in : List ℕ → ℕ → Bool
bound_in terms w = not (is_variable w) || member w terms

unfoldable pub all_bound : List ℕ → Condition → Bool
all_bound terms always = true
all_bound terms (both a b) = all_bound terms a && all_bound terms b
all_bound terms (either a b) = all_bound terms a && all_bound terms b
all_bound terms (negated a) = all_bound terms a
all_bound terms (compared o l r) = bound_in terms l && bound_in terms r
