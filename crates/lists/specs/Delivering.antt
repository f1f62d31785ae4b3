-- One row more: the words of a list with a further delivered row, from the words of the list. Assumes nothing: these are definitions.
use Rattle.std.specs.Prelude.{ℕ, Bool, true, cond, length, take}
use mathlib.Core.List.{List, [], ◌∷◌, ◌++◌, map, flatten}
use Rattle.words.specs.Bindings.{Bindings, value_of}
use Rattle.plans.specs.Endings.{Ending, rows, top, group, registers}
use Rattle.sequences.specs.Sorting.{insert_by}
use Rattle.registers.specs.Registers.{registers_of, greater_of}
use Rattle.lists.specs.Rows.{project, has_value, row_before}
use Rattle.lists.specs.Groups.{of_row, add_by, keys_before, together, group_words}
use Rattle.lists.specs.Gathering.{records_in, groups_in}

-- the row `x` comes strictly before the threshold, or there is none
abbrev pub is_ahead : (List ℕ → List ℕ → Bool) → List ℕ → List ℕ → Bool
is_ahead before [] x = true
is_ahead before (w ∷ ws) x = before x (w ∷ ws)

-- `row` put in among the best `k`
abbrev pub with_best : ℕ → List ℕ → List ℕ → List ℕ → List ℕ → List ℕ
with_best k vs keys list row = flatten (take k (insert_by (row_before vs keys) row (records_in (length vs) list)))

-- the registers of the value `x` taken in, where it is bound
abbrev pub with_value : List ℕ → ℕ → List ℕ
with_value list x = cond (has_value x) (greater_of list (registers_of (x ∷ []))) list

-- a row at the end; among the best, if it is ahead; counted in its group; its value's register raised
unfoldable pub with_row : Ending → List ℕ → List ℕ → Bindings → List ℕ
with_row (rows vs) threshold list b = list ++ project vs b
with_row (top k vs keys) threshold list b =
    cond (is_ahead (row_before vs keys) threshold (project vs b)) (with_best k vs keys list (project vs b)) list
with_row (group vs m) threshold list b =
    flatten (map group_words (add_by keys_before together (of_row vs m b) (groups_in vs list)))
with_row (registers v) threshold list b = with_value list (value_of b v)
