-- Evaluating a condition: its truth, and how many of its comparisons are read. The right operand of an "and" that is a lone
-- comparison is read first, and where it is false the left one is skipped. Assumes nothing: these are definitions.
use Rattle.std.specs.Prelude.{ℕ, ◌+◌, Bool, true, false, cond, ◌&&◌}
use Rattle.words.specs.Bindings.{Bindings, value_of}
use Rattle.plans.specs.Conditions.{Condition, always, both, either, negated, compared}
use Rattle.conditions.specs.declared.Truth.{Truth}
use Rattle.conditions.specs.declared.Truth.TheVariants.{True, False, Error}
use Rattle.conditions.specs.declared.Evaluated.{Evaluated}
use Rattle.conditions.specs.Truth.{conjunction, disjunction, negation, comparison, truth_of}

-- a comparison, with no "not" over it
abbrev pub is_lone : Condition → Bool
is_lone always = false
is_lone (both x y) = false
is_lone (either x y) = false
is_lone (negated x) = false
is_lone (compared o l r) = true

abbrev pub is_false : Truth → Bool
is_false True = false
is_false False = true
is_false Error = false

-- under "not" nothing is skipped
abbrev pub negated_read : Evaluated → Evaluated
negated_read x = record { truth = negation x.truth; reads = x.reads }

-- both operands read
abbrev pub pair_read : (Truth → Truth → Truth) → Evaluated → Evaluated → Evaluated
pair_read join x y = record { truth = join x.truth y.truth; reads = x.reads + y.reads }

-- an "and" whose right operand was read first: where that is false it is the value, and the left one is skipped
abbrev pub right_first : Evaluated → Evaluated → Evaluated
right_first x y = cond (is_false y.truth) y (pair_read conjunction x y)

unfoldable pub evaluated : Bindings → Condition → Evaluated
evaluated b always = record { truth = True; reads = 0 }
evaluated b (both x y) =
    cond (is_lone y) (right_first (evaluated b x) (evaluated b y)) (pair_read conjunction (evaluated b x) (evaluated b y))
evaluated b (either x y) = pair_read disjunction (evaluated b x) (evaluated b y)
evaluated b (negated x) = negated_read (evaluated b x)
evaluated b (compared o l r) = record { truth = comparison o (value_of b l) (value_of b r); reads = 1 }

-- ---- the comparisons of a tree
unfoldable pub comparisons_in : Condition → ℕ
comparisons_in always = 0
comparisons_in (both x y) = comparisons_in x + comparisons_in y
comparisons_in (either x y) = comparisons_in x + comparisons_in y
comparisons_in (negated x) = comparisons_in x
comparisons_in (compared o l r) = 1

-- those skipped: all of a left operand whose right sibling is a lone comparison that is false, and none of these counted again
unfoldable pub skipped_in : Bindings → Condition → ℕ
skipped_in b always = 0
skipped_in b (both x y) = cond (is_lone y && is_false (truth_of b y)) (comparisons_in x) (skipped_in b x + skipped_in b y)
skipped_in b (either x y) = skipped_in b x + skipped_in b y
skipped_in b (negated x) = skipped_in b x
skipped_in b (compared o l r) = 0
