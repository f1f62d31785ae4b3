-- What the code answers of a condition and of the pieces that it is made of, and where it finds them. Assumes nothing: these are definitions.
use Rattle.std.specs.Prelude.{ℕ, ◌<◌, ◌≡◌, Bool, true, cond, ◌&&◌, ◌||◌, List, [], ◌∷◌, eqb, get_or}
use Rattle.words.specs.Words.{number_kind, text_kind, kind, low, and_kind, comparison_kind}
use Rattle.words.specs.Bindings.{Bindings, value_of}
use Rattle.plans.specs.declared.Node.{Node}
use Rattle.plans.specs.declared.Node.TheVariants.{Always, Pair, Negated, Compared, Wrong}
use Rattle.plans.specs.Conditions.{Condition, always, node_of, read_condition, most_depth}
use Rattle.plans.specs.Reading.{is_read, words_read, read_or}
use Rattle.conditions.specs.declared.Evaluated.{Evaluated}
use Rattle.conditions.specs.declared.Truth.{Truth}
use Rattle.conditions.specs.Truth.{conjunction, disjunction, kinds_are, comparison}
use Rattle.conditions.specs.Evaluated.{is_false}

-- ---- the condition that some words start with
abbrev pub Readable : List ℕ → Type 0
Readable ws = is_read (read_condition most_depth ws) ≡ true

abbrev pub condition_in : List ℕ → Condition
condition_in ws = read_or always (read_condition most_depth ws)

-- ---- comparisons
-- two terms that have an order: two numbers or two texts
abbrev pub have_order : ℕ → ℕ → Bool
have_order a b = kinds_are number_kind number_kind a b || kinds_are text_kind text_kind a b

-- two terms whose equality is an error: a number and a text
abbrev pub are_mixed : ℕ → ℕ → Bool
are_mixed a b = kinds_are number_kind text_kind a b || kinds_are text_kind number_kind a b

-- a comparison evaluated: its word and two terms
abbrev pub comparison_read : Bindings → List ℕ → Evaluated
comparison_read b ws = record { truth = comparison (low (get_or ws 0 0)) (value_of b (get_or ws 1 0)) (value_of b (get_or ws 2 0)); reads = 1 }

-- ---- pairs
-- `a` and `b` joined by the word `w`: by "and" if it is of kind 4, else by "or"
abbrev pub joined_by : ℕ → Truth → Truth → Truth
joined_by w a b = cond (eqb (kind w) and_kind) (conjunction a b) (disjunction a b)

-- comparisons that can be added up: no slice has as many words
abbrev pub Few : Evaluated → Type 0
Few x = x.reads < 0x2000_0000_0000_0000

-- the words of the left operand of the pair that words start with; 0 where they start with none
abbrev pub left_under : Node → ℕ → ℕ
left_under Always m = 0
left_under Pair m = m
left_under Negated m = 0
left_under Compared m = 0
left_under Wrong m = 0

abbrev pub left_words : List ℕ → ℕ
left_words [] = 0
left_words (w ∷ ws) = left_under (node_of w) (words_read (read_condition most_depth ws))

-- the same for each place of words: what a turn finds once in its plan
unfoldable pub lefts_of : List ℕ → List ℕ
lefts_of [] = []
lefts_of (w ∷ ws) = left_words (w ∷ ws) ∷ lefts_of ws

-- whether the right operand, which starts with `other`, of the pair that starts with `w` is its short side: a comparison under "and"
abbrev pub is_short : ℕ → ℕ → Bool
is_short w other = eqb (kind w) and_kind && eqb (kind other) comparison_kind

-- whether the operand that was read first settles the pair: it is the short side, and false
abbrev pub settles : Bool → Evaluated → Bool
settles short x = short && is_false x.truth
