-- What each ending makes of delivered rows, case by case: its list as words, merging, tests 12 and 13, and the room that it needs.
-- Assumes nothing: these are definitions.
use Rattle.std.specs.Prelude.{ℕ, zero, suc, ◌+◌, ◌*◌, ◌/◌, ◌%◌, Bool, true, false, cond, ◌&&◌, not, length, eqb, ltb, leb}
use mathlib.Core.List.{List, [], ◌∷◌, ◌++◌, map, flatten}
use Rattle.words.specs.Words.{is_number, is_value, value_rank, unbound}
use Rattle.words.specs.Bindings.{Bindings}
use Rattle.sequences.specs.Sequences.{all, neighbours, parts}
use Rattle.plans.specs.Endings.{Ending, rows, top, group, registers}
use Rattle.sequences.specs.Sorting.{best_by}
use Rattle.registers.specs.Registers.{register_count, registers_of, registers_in, greater_of, are_registers, kept_registers}
use Rattle.lists.specs.Rows.{project, bound_values, row_before, ahead}
use Rattle.lists.specs.Sums.{long_values, sum_fits, is_zero}
use Rattle.lists.specs.Groups.{Group, totals_width, groups_of, add_groups, keys_before, group_words, group_in}

-- ---- records
-- the lists of an ending are rows, which are joined end to end; those of any other ending are merged
abbrev pub is_rows : Ending → Bool
is_rows (rows vs) = true
is_rows (top k vs keys) = false
is_rows (group vs m) = false
is_rows (registers v) = false

-- the words of one row or one record, or of all registers
abbrev pub width : Ending → ℕ
width (rows vs) = length vs
width (top k vs keys) = length vs
width (group vs m) = length vs + totals_width
width (registers v) = register_count

-- a list cut into rows or records of `w` words
unfoldable pub records_in : ℕ → List ℕ → List (List ℕ)
records_in w ws = parts w (length ws / w) ws

abbrev pub groups_in : List ℕ → List ℕ → List Group
groups_in vs ws = map (group_in (length vs)) (records_in (length vs + totals_width) ws)

-- ---- gathering: the list of some delivered rows, for a best-of list of those strictly before a threshold
unfoldable pub gathered : Ending → List ℕ → List Bindings → List ℕ
gathered (rows vs) threshold bs = flatten (map (project vs) bs)
gathered (top k vs keys) threshold bs =
    flatten (best_by (row_before vs keys) k (ahead (row_before vs keys) threshold (map (project vs) bs)))
gathered (group vs m) threshold bs = flatten (map group_words (groups_of vs m bs))
gathered (registers v) threshold bs = registers_of (bound_values v bs)

-- test 7: the words that an output has at least: one row, k rows, one record, all registers
abbrev pub least_output : Ending → ℕ
least_output (rows vs) = length vs
least_output (top k vs keys) = k * length vs
least_output (group vs m) = length vs + totals_width
least_output (registers v) = register_count

-- test 11: a threshold is empty, or one row for a best-of ending
unfoldable pub threshold_right : Ending → List ℕ → Bool
threshold_right e [] = true
threshold_right (rows vs) (w ∷ ws) = false
threshold_right (top k vs keys) (w ∷ ws) = eqb (length (w ∷ ws)) (length vs) && all is_value (w ∷ ws)
threshold_right (group vs m) (w ∷ ws) = false
threshold_right (registers v) (w ∷ ws) = false

-- ---- merging
-- the best of both, kept rows first among equals; groups added up; the greater of each register
unfoldable pub merged : Ending → List ℕ → List ℕ → List ℕ
merged (rows vs) kept list = []
merged (top k vs keys) kept list =
    flatten (best_by (row_before vs keys) k (records_in (length vs) kept ++ records_in (length vs) list))
merged (group vs m) kept list = flatten (map group_words (add_groups (groups_in vs kept) (groups_in vs list)))
merged (registers v) kept list = greater_of (registers_in kept) list

-- how a turn's list is taken: joined end to end for rows, merged for any other ending
abbrev pub taken_into : Ending → List ℕ → List ℕ → List ℕ
taken_into (rows vs) kept list = kept ++ list
taken_into (top k vs keys) kept list = merged (top k vs keys) kept list
taken_into (group vs m) kept list = merged (group vs m) kept list
taken_into (registers v) kept list = merged (registers v) kept list

-- test 12, of a turn's list
-- with numbers 0 the sum is 0 and least and greatest are unbound; otherwise these are numbers, least not above greatest
abbrev pub extremes_right : Group → Bool
extremes_right g =
    cond (eqb g.numbers 0)
    (is_zero g.sum && (eqb g.least unbound && eqb g.greatest unbound))
    (is_number g.least && (is_number g.greatest && leb (value_rank g.least) (value_rank g.greatest)))

-- the fewest rows that a record counts, by the number of its keys: with no key there is one group always, even of no rows
abbrev pub least_rows : ℕ → ℕ
least_rows zero = 0
least_rows (suc n) = 1

unfoldable pub group_right : Group → Bool
group_right g =
    all is_value g.keys && (leb (least_rows (length g.keys)) g.rows && (leb g.numbers g.rows && extremes_right g))

unfoldable pub list_right : Ending → List ℕ → Bool
list_right (rows vs) ws = false
list_right (top k vs keys) ws =
    eqb (length ws % length vs) 0
    && (all is_value ws
    && (leb (length ws / length vs) k
    && neighbours (λ x y. not (row_before vs keys y x)) (records_in (length vs) ws)))
list_right (group vs m) ws =
    eqb (length ws % (length vs + totals_width)) 0 && (all group_right (groups_in vs ws) && neighbours keys_before (groups_in vs ws))
list_right (registers v) ws = are_registers ws

-- test 12, of a kept list: as a turn's, but that registers may be none
abbrev pub kept_right : Ending → List ℕ → Bool
kept_right (rows vs) ws = list_right (rows vs) ws
kept_right (top k vs keys) ws = list_right (top k vs keys) ws
kept_right (group vs m) ws = list_right (group vs m) ws
kept_right (registers v) ws = kept_registers ws

-- test 13: the rows and the numbers of a merged group do not pass 2^64 - 1, and its sum is from -2^63 to 2^63 - 1
abbrev pub group_fits : Group → Bool
group_fits g = ltb g.rows long_values && (ltb g.numbers long_values && sum_fits g.sum)

unfoldable pub totals_fit : Ending → List ℕ → List ℕ → Bool
totals_fit (rows vs) kept list = true
totals_fit (top k vs keys) kept list = true
totals_fit (group vs m) kept list = all group_fits (add_groups (groups_in vs kept) (groups_in vs list))
totals_fit (registers v) kept list = true

-- the same of the groups of some delivered rows
abbrev pub rows_fit : Ending → List Bindings → Bool
rows_fit (rows vs) bs = true
rows_fit (top k vs keys) bs = true
rows_fit (group vs m) bs = all group_fits (groups_of vs m bs)
rows_fit (registers v) bs = true
