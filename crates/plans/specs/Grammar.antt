-- Which words are a plan that is accepted, in the words of the rules (docs/RULES.md, 2 and 10): how a plan is written, and which variables and which year it
-- may name. Nothing here reads words. Assumes nothing: these are definitions.
use Rattle.std.specs.Prelude.{ℕ, zero, suc, ◌/◌, ◌≤◌, ◌<◌, ◌≡◌, true, length, get_or}
use mathlib.Core.List.{List, [], ◌∷◌, ◌++◌, map, flatten}
use Rattle.words.specs.Words.{low_numbers, low, word, is_variable, term_value, variable, most_year, year_word, head_kind, branch_kind, true_kind, and_kind}
use Rattle.words.specs.Words.{or_kind}
use Rattle.words.specs.Words.{not_kind, comparison_kind, last_operator, rows_kind, top_kind, group_kind, registers_kind}
use Rattle.words.specs.Bindings.{variable_count}
use Rattle.sequences.specs.Sequences.{member}
use Rattle.plans.specs.declared.Years.{Years}
use Rattle.plans.specs.declared.Years.TheVariants.{Latest, Every, Named}
use Rattle.plans.specs.Conditions.{Condition, always, both, either, negated, compared, nodes, most_nodes, most_depth}
use Rattle.plans.specs.Branches.{Branch, pattern_width}
use Rattle.plans.specs.Endings.{Ending, rows, top, group, registers, most_best, best_count}
use Rattle.plans.specs.Plans.{Plan, most_branches, most_plan_words, branch_at}
use Rattle.plans.specs.Reading.{variables_in, keys_in}
use Rattle.plans.specs.Forms.{BranchForm, RowForm, TopForm, GroupForm}

-- ---- conditions
-- the words of a condition: a node's word, and then its conditions or its two terms
unfoldable pub condition_words : Condition → List ℕ
condition_words always = word true_kind 0 ∷ []
condition_words (both a b) = word and_kind 0 ∷ (condition_words a ++ condition_words b)
condition_words (either a b) = word or_kind 0 ∷ (condition_words a ++ condition_words b)
condition_words (negated a) = word not_kind 0 ∷ condition_words a
condition_words (compared o l r) = word comparison_kind o ∷ l ∷ r ∷ []

-- no deeper than the number of nodes, a lone node being 1 deep, and its comparisons are 0 to 5
abbrev pub ConditionForm : ℕ → Condition → Type 0
ConditionForm zero c = ⊥
ConditionForm (suc depth) always = Unit {0}
ConditionForm (suc depth) (both a b) = ConditionForm depth a × ConditionForm depth b
ConditionForm (suc depth) (either a b) = ConditionForm depth a × ConditionForm depth b
ConditionForm (suc depth) (negated a) = ConditionForm depth a
ConditionForm (suc depth) (compared o l r) = o ≤ last_operator

-- the terms of its comparisons
unfoldable pub condition_terms : Condition → List ℕ
condition_terms always = []
condition_terms (both a b) = condition_terms a ++ condition_terms b
condition_terms (either a b) = condition_terms a ++ condition_terms b
condition_terms (negated a) = condition_terms a
condition_terms (compared o l r) = l ∷ r ∷ []

-- ---- branches
-- the word with the number of patterns, their terms, whatever these are, and the condition
abbrev pub branch_words : Branch → List ℕ
branch_words b = word branch_kind (length b.terms / pattern_width) ∷ (b.terms ++ condition_words b.condition)

pub record BranchAllowed (b : Branch) : Type 0 where
  pub patterns : BranchForm b
  pub deep : ConditionForm most_depth b.condition
  pub few : nodes b.condition ≤ most_nodes

-- ---- endings: rows; top, its k, a kind 8 part and the keys; group, its variables and the measured one; registers, and the counted variable
abbrev pub EndingWords : Ending → List ℕ → Type 0
EndingWords (rows vs) ws = RowForm vs × (ws ≡ word rows_kind (length vs) ∷ vs)
EndingWords (top most vs keys) ws =
    TopForm most vs keys × ((k : ℕ) × (k ≤ most_best) × (most ≡ best_count k) × (ws ≡ word top_kind k ∷ word rows_kind (length vs) ∷ (vs ++ keys)))
EndingWords (group vs m) ws = GroupForm vs m × (ws ≡ word group_kind (length vs) ∷ (vs ++ (m ∷ [])))
EndingWords (registers v) ws = (is_variable v ≡ true) × (ws ≡ word registers_kind 0 ∷ v ∷ [])

-- ---- years: no word for the latest, 0 for every year, a number of 28 bits for another
abbrev pub years_words : Years → List ℕ
years_words Latest = []
years_words Every = year_word 0 ∷ []
years_words (Named n) = year_word n ∷ []

abbrev pub YearNumbered : Years → Type 0
YearNumbered Latest = Unit {0}
YearNumbered Every = Unit {0}
YearNumbered (Named n) = (1 ≤ n) × (n < low_numbers)

-- ---- test 5: at most 256 words, the years', a head, from 1 to 4 branches and an ending, and nothing more
pub record PlanWords (q : Plan) (ws : List ℕ) : Type 0 where
  pub ending : List ℕ
  pub words : ws ≡ years_words q.years ++ (word head_kind (length q.branches) ∷ (flatten (map branch_words q.branches) ++ ending))
  pub short : length ws ≤ most_plan_words
  pub numbered : YearNumbered q.years
  pub least : 1 ≤ length q.branches
  pub most : length q.branches ≤ most_branches
  pub branches : (i : ℕ) → i < length q.branches → BranchAllowed (branch_at q i)
  pub ends : EndingWords q.ending ending

-- ---- test 6
-- a word is one of some
abbrev pub IsOneOf : ℕ → List ℕ → Type 0
IsOneOf w ws = member w ws ≡ true

-- the variables that an ending names, but for those of its keys
abbrev pub named_in : Ending → List ℕ
named_in (rows vs) = vs
named_in (top k vs keys) = vs
named_in (group vs m) = vs ++ (m ∷ [])
named_in (registers v) = v ∷ []

pub record VariablesBound (q : Plan) : Type 0 where
  -- no variable of a pattern is above ?15; a term of another kind may stand in any place
  pub patterns : (i w : ℕ) → i < length q.branches → IsOneOf w (branch_at q i).terms → is_variable w ≡ true → term_value w < variable_count
  -- a variable of a condition is bound by its branch
  pub conditions : (i w : ℕ) → i < length q.branches → IsOneOf w (condition_terms (branch_at q i).condition) → is_variable w ≡ true
      → IsOneOf w (branch_at q i).terms
  -- a variable of the ending is bound by some branch
  pub ending : (w : ℕ) → IsOneOf w (named_in q.ending) → (i : ℕ) × (i < length q.branches) × IsOneOf w (branch_at q i).terms
  -- a key's is among those of the rows
  pub keys : (key : ℕ) → IsOneOf key (keys_in q.ending) → IsOneOf (variable (low key)) (variables_in q.ending)
  -- those of rows, or of groups, are all different
  pub different : (i j : ℕ) → i < j → j < length (variables_in q.ending)
      → ¬ (get_or (variables_in q.ending) i 0 ≡ get_or (variables_in q.ending) j 0)

-- ---- test 23: the year that is named is at most 9,999
abbrev pub YearKnown : Years → Type 0
YearKnown Latest = Unit {0}
YearKnown Every = Unit {0}
YearKnown (Named n) = n ≤ most_year

-- ---- a plan that is accepted
pub record PlanAccepted (ws : List ℕ) : Type 0 where
  pub plan : Plan
  pub words : PlanWords plan ws
  pub variables : VariablesBound plan
  pub year : YearKnown plan.years
