-- How large the parts of a plan may be (docs/RULES.md, 2). Assumes nothing: these are definitions.
use Rattle.std.specs.Prelude.{ℕ, ◌*◌, ◌≤◌, ◌≡◌, true, List, length}
use Rattle.words.specs.Words.{is_variable}
use Rattle.sequences.specs.Sequences.{all}
use Rattle.plans.specs.Branches.{Branch, pattern_width, most_patterns}
use Rattle.plans.specs.Endings.{Ending, rows, top, group, registers, most_row_variables, most_best, most_keys, most_group_variables, is_key}

-- from 1 to 8 patterns of three terms each
pub record BranchForm (b : Branch) : Type 0 where
  pub patterns : ℕ
  pub width : length b.terms ≡ pattern_width * patterns
  pub least : 1 ≤ patterns
  pub most : patterns ≤ most_patterns

-- from 1 to 16 variables
pub record RowForm (vs : List ℕ) : Type 0 where
  pub least : 1 ≤ length vs
  pub most : length vs ≤ most_row_variables
  pub variables : all is_variable vs ≡ true

-- from 1 to 64 rows, and from 1 to 4 keys
pub record TopForm (k : ℕ) (vs keys : List ℕ) : Type 0 where
  pub row : RowForm vs
  pub least : 1 ≤ k
  pub most : k ≤ most_best
  pub some_key : 1 ≤ length keys
  pub few_keys : length keys ≤ most_keys
  pub are_keys : all is_key keys ≡ true

-- at most 4 variables, and the measured one
pub record GroupForm (vs : List ℕ) (measured : ℕ) : Type 0 where
  pub most : length vs ≤ most_group_variables
  pub variables : all is_variable vs ≡ true
  pub measure : is_variable measured ≡ true

abbrev pub EndingForm : Ending → Type 0
EndingForm (rows vs) = RowForm vs
EndingForm (top k vs keys) = TopForm k vs keys
EndingForm (group vs m) = GroupForm vs m
EndingForm (registers v) = is_variable v ≡ true
