-- Lists that a call is given, in literal words: a threshold of each fault of 11, and for merging a kept list and a turn's list of each
-- fault of 12, beside lists that just pass; 13 by each total; 14.
use Rattle.std.specs.Prelude.{ℕ, length, replicate}
use mathlib.Core.List.{List, [], ◌∷◌, ◌++◌, flatten}
use Rattle.std.proofs.Math.Option.{none, some}
use Rattle.words.specs.declared.Written.TheVariants.{Words}
use Rattle.worked_cases.specs.Calls.{merging, merged, testing, tested, Case, kept_buffer, turn_call, merge_call, not_merged}
use Rattle.worked_cases.specs.Literals.{stems, stem1, all_diameters, at_place}

-- rows ?0 ?1; the best 2 by ?1 rising, the best 64, and the best of no given number; a group for each ?0 measuring ?1, and one group measuring ?1
abbrev pub rows_plan : List ℕ
rows_plan = all_diameters (0x80000002 ∷ 0xC0000000 ∷ 0xC0000001 ∷ [])

abbrev pub best_two : List ℕ
best_two = all_diameters (0x90000002 ∷ 0x80000002 ∷ 0xC0000000 ∷ 0xC0000001 ∷ 0xA0000001 ∷ [])

abbrev pub best_many : List ℕ
best_many = all_diameters (0x90000040 ∷ 0x80000002 ∷ 0xC0000000 ∷ 0xC0000001 ∷ 0xA0000001 ∷ [])

abbrev pub best_unnumbered : List ℕ
best_unnumbered = all_diameters (0x90000000 ∷ 0x80000002 ∷ 0xC0000000 ∷ 0xC0000001 ∷ 0xA0000001 ∷ [])

abbrev pub groups_plan : List ℕ
groups_plan = all_diameters (0xC0000001 ∷ 0xC0000000 ∷ 0xC0000001 ∷ [])

abbrev pub one_group_plan : List ℕ
one_group_plan = all_diameters (0xC0000000 ∷ 0xC0000001 ∷ [])

-- ---- 11: a threshold is empty, or one row for an ending of kind 9
abbrev pub threshold_passes : List ℕ → List ℕ → Case
threshold_passes plan threshold = (testing (turn_call stems plan (at_place 0xF0000003) 5 threshold 256), tested none)

abbrev pub threshold_fails : List ℕ → List ℕ → Case
threshold_fails plan threshold = (testing (turn_call stems plan (at_place 0xF0000003) 5 threshold 256), tested (some 11))

abbrev pub thresholds : List Case
thresholds =
    threshold_passes rows_plan []
    ∷ threshold_passes best_two []
    ∷ threshold_passes groups_plan []
    ∷ threshold_passes best_two stem1
    -- wrong length
    ∷ threshold_fails best_two (0x00000001 ∷ [])
    ∷ threshold_fails best_two (0x00000001 ∷ 0x4000002D ∷ 0x00000002 ∷ [])
    ∷ threshold_fails best_two (0x00000001 ∷ 0x4000002D ∷ 0x00000002 ∷ 0x40000136 ∷ [])
    -- another ending
    ∷ threshold_fails rows_plan stem1
    ∷ threshold_fails groups_plan (0x00000001 ∷ [])
    ∷ threshold_fails one_group_plan stem1
    -- a word of kind 3 other than unbound
    ∷ threshold_passes best_two (0x00000001 ∷ 0xC0000000 ∷ [])
    ∷ threshold_fails best_two (0x00000001 ∷ 0xC0000001 ∷ [])
    ∷ threshold_fails best_two (0xFFFFFFFF ∷ 0x4000002D ∷ [])
    ∷ []

-- ---- 12: a list as kept list, with nothing to merge; and as the turn's list, with nothing kept
abbrev pub merges_well : List ℕ → List ℕ → List Case
merges_well plan list =
    (merging (merge_call plan list 256 []), merged (record { answer = Words (length list); buffers = kept_buffer 256 list }))
    ∷ (merging (merge_call plan [] 256 list), merged (record { answer = Words (length list); buffers = kept_buffer 256 list }))
    ∷ []

abbrev pub faulty : List ℕ → List ℕ → List Case
faulty plan list = not_merged (merge_call plan list 256 []) 12 ∷ not_merged (merge_call plan [] 256 list) 12 ∷ []

-- more words given than the kept buffer has; all of them
abbrev pub kept_lengths : List Case
kept_lengths =
    not_merged (record { plan = best_two; kept = 0x00000001 ∷ 0x4000002D ∷ []; given = 3; list = [] }) 12
    ∷ not_merged (record { plan = best_two; kept = 0x00000001 ∷ 0x4000002D ∷ []; given = 4; list = [] }) 12
    ∷ (
      merging (record { plan = best_two; kept = 0x00000001 ∷ 0x4000002D ∷ []; given = 2; list = [] }),
      merged (record { answer = Words 2; buffers = 0x00000001 ∷ 0x4000002D ∷ [] }),
    )
    ∷ []

-- n1 i45, `n` times
abbrev pub equal_rows : ℕ → List ℕ
equal_rows n = flatten (replicate n stem1)

abbrev pub best_faults : List Case
best_faults =
    flatten
    -- nothing; wrong length
    (merges_well best_two []
    ∷ merges_well best_two (equal_rows 1)
    ∷ faulty best_two (0x00000001 ∷ [])
    ∷ faulty best_two (equal_rows 1 ++ (0x00000002 ∷ []))
    -- a term of kind 3 other than unbound
    ∷ merges_well best_two (0xC0000000 ∷ 0xC0000000 ∷ [])
    ∷ faulty best_two (0x00000001 ∷ 0xC0000001 ∷ [])
    ∷ faulty best_two (0xC0000001 ∷ 0x4000002D ∷ [])
    -- more than k rows: k = 2; k = 64; k = 0, which means 10
    ∷ merges_well best_two (equal_rows 2)
    ∷ faulty best_two (equal_rows 3)
    ∷ merges_well best_many (equal_rows 64)
    ∷ faulty best_many (equal_rows 65)
    ∷ merges_well best_unnumbered (equal_rows 10)
    ∷ faulty best_unnumbered (equal_rows 11)
    -- wrong order: i45 before i310; unbound before names, numbers and texts; equal rows may stand in any order
    ∷ merges_well best_two (0x00000002 ∷ 0x4000002D ∷ 0x00000001 ∷ 0x40000136 ∷ [])
    ∷ faulty best_two (0x00000001 ∷ 0x40000136 ∷ 0x00000002 ∷ 0x4000002D ∷ [])
    ∷ merges_well best_many (0x00000001 ∷ 0xC0000000 ∷ 0x00000001 ∷ 0x00000009 ∷ 0x00000001 ∷ 0x40000005 ∷ 0x00000001 ∷ 0x80000000 ∷ [])
    ∷ faulty best_many (0x00000001 ∷ 0x00000009 ∷ 0x00000001 ∷ 0xC0000000 ∷ [])
    ∷ faulty best_many (0x00000001 ∷ 0x40000005 ∷ 0x00000001 ∷ 0x00000009 ∷ [])
    ∷ faulty best_many (0x00000001 ∷ 0x80000000 ∷ 0x00000001 ∷ 0x40000005 ∷ [])
    ∷ merges_well best_two (0x00000002 ∷ 0x4000002D ∷ 0x00000001 ∷ 0x4000002D ∷ [])
    -- the plan ends in kind 8
    ∷ faulty rows_plan []
    ∷ faulty rows_plan (equal_rows 1)
    ∷ [])

-- a record of no key: rows, numbers and sum, low word first, least and greatest
abbrev pub totals_literal : ℕ → ℕ → ℕ → ℕ → ℕ → ℕ → ℕ → ℕ → List ℕ
totals_literal r s n m x y least greatest = r ∷ s ∷ n ∷ m ∷ x ∷ y ∷ least ∷ greatest ∷ []

-- one row without a number
abbrev pub plain_row : List ℕ
plain_row = totals_literal 1 0 0 0 0 0 0xC0000000 0xC0000000

-- the record of no rows
abbrev pub record_of_none : List ℕ
record_of_none = totals_literal 0 0 0 0 0 0 0xC0000000 0xC0000000

abbrev pub group_faults : List Case
group_faults =
    flatten
    -- nothing; part of a record
    (merges_well one_group_plan []
    ∷ merges_well one_group_plan plain_row
    ∷ faulty one_group_plan (1 ∷ 0 ∷ 0 ∷ 0 ∷ 0 ∷ 0 ∷ 0xC0000000 ∷ [])
    ∷ faulty one_group_plan (plain_row ++ (1 ∷ []))
    ∷ merges_well groups_plan (0x00000001 ∷ plain_row)
    ∷ faulty groups_plan plain_row
    -- a term of kind 3 other than unbound
    ∷ merges_well groups_plan (0xC0000000 ∷ plain_row)
    ∷ faulty groups_plan (0xC0000001 ∷ plain_row)
    -- wrong order, equal keys: unbound, names, numbers, texts
    ∷ merges_well groups_plan (0xC0000000 ∷ (plain_row ++ (0x00000009 ∷ (plain_row ++ (0x40000005 ∷ (plain_row ++ (0x80000000 ∷ plain_row)))))))
    ∷ faulty groups_plan (0x00000002 ∷ (plain_row ++ (0x00000001 ∷ plain_row)))
    ∷ faulty groups_plan (0x00000001 ∷ (plain_row ++ (0x00000001 ∷ plain_row)))
    ∷ faulty groups_plan (0x00000001 ∷ (plain_row ++ (0xC0000000 ∷ plain_row)))
    ∷ faulty groups_plan (0x40000005 ∷ (plain_row ++ (0x00000009 ∷ plain_row)))
    ∷ faulty groups_plan (0x80000000 ∷ (plain_row ++ (0x40000005 ∷ plain_row)))
    -- numbers by value, i-1 before i0; names and texts by their words, also from 2^29 on
    ∷ merges_well groups_plan
    (0x1FFFFFFF ∷ (plain_row ++ (0x20000000 ∷ (plain_row ++ (0x7FFFFFFF ∷ (plain_row ++ (0x40000000 ∷ (plain_row ++ (0xA0000000 ∷ plain_row)))))))))
    ∷ faulty groups_plan (0x40000000 ∷ (plain_row ++ (0x7FFFFFFF ∷ plain_row)))
    ∷ faulty groups_plan (0xA0000000 ∷ (plain_row ++ (0x9FFFFFFF ∷ plain_row)))
    ∷ faulty one_group_plan (plain_row ++ plain_row)
    -- rows 0: one such record passes, and only without keys; 2^32 rows are not 0
    ∷ merges_well one_group_plan record_of_none
    ∷ faulty groups_plan (0x00000001 ∷ record_of_none)
    ∷ faulty groups_plan (0xC0000000 ∷ record_of_none)
    ∷ faulty one_group_plan (totals_literal 0 0 1 0 5 0 0x40000005 0x40000005)
    ∷ faulty one_group_plan (totals_literal 0 0 0 0 1 0 0xC0000000 0xC0000000)
    ∷ faulty one_group_plan (totals_literal 0 0 0 0 0 0 0x40000000 0xC0000000)
    ∷ faulty one_group_plan (totals_literal 0 0 0 0 0 0 0x00000000 0x00000000)
    ∷ faulty one_group_plan (totals_literal 0 0 0 0 0 0 0xC0000000 0x40000000)
    ∷ faulty one_group_plan (record_of_none ++ record_of_none)
    ∷ merges_well one_group_plan (totals_literal 0 1 0 0 0 0 0xC0000000 0xC0000000)
    -- numbers above rows, in the low word and in the high one
    ∷ merges_well one_group_plan (totals_literal 2 0 2 0 5 0 0x40000000 0x40000005)
    ∷ faulty one_group_plan (totals_literal 2 0 3 0 5 0 0x40000000 0x40000005)
    ∷ faulty one_group_plan (totals_literal 2 0 0 1 5 0 0x40000000 0x40000005)
    ∷ merges_well one_group_plan (totals_literal 0 1 2 0 5 0 0x40000000 0x40000005)
    -- with numbers 0, a sum not 0, a least or a greatest not unbound
    ∷ faulty one_group_plan (totals_literal 1 0 0 0 1 0 0xC0000000 0xC0000000)
    ∷ faulty one_group_plan (totals_literal 1 0 0 0 0 1 0xC0000000 0xC0000000)
    ∷ faulty one_group_plan (totals_literal 1 0 0 0 0xFFFFFFFF 0xFFFFFFFF 0xC0000000 0xC0000000)
    ∷ faulty one_group_plan (totals_literal 1 0 0 0 0 0 0x40000000 0xC0000000)
    ∷ faulty one_group_plan (totals_literal 1 0 0 0 0 0 0xC0000000 0x40000000)
    -- otherwise, a least or a greatest that is no number
    ∷ merges_well one_group_plan (totals_literal 1 0 1 0 5 0 0x40000005 0x40000005)
    ∷ faulty one_group_plan (totals_literal 1 0 1 0 5 0 0x00000005 0x40000005)
    ∷ faulty one_group_plan (totals_literal 1 0 1 0 5 0 0x80000005 0x40000005)
    ∷ faulty one_group_plan (totals_literal 1 0 1 0 5 0 0xC0000000 0x40000005)
    ∷ faulty one_group_plan (totals_literal 1 0 1 0 5 0 0x40000005 0x00000005)
    ∷ faulty one_group_plan (totals_literal 1 0 1 0 5 0 0x40000005 0x80000005)
    ∷ faulty one_group_plan (totals_literal 1 0 1 0 5 0 0x40000005 0xC0000000)
    -- or least above greatest
    ∷ faulty one_group_plan (totals_literal 1 0 1 0 5 0 0x40000006 0x40000005)
    ∷ merges_well one_group_plan (totals_literal 2 0 2 0 11 0 0x40000005 0x40000006)
    ∷ merges_well one_group_plan (totals_literal 2 0 2 0 0xFFFFFFFF 0xFFFFFFFF 0x7FFFFFFB 0x40000004)
    ∷ faulty one_group_plan (totals_literal 2 0 2 0 0xFFFFFFFF 0xFFFFFFFF 0x40000004 0x7FFFFFFB)
    ∷ [])

-- ---- 13: rows would pass 2^64 - 1, or the sum leave -2^63 to 2^63 - 1. Numbers are never above rows, so they pass it only where rows do
abbrev pub adds_up : List ℕ → List ℕ → List ℕ → Case
adds_up kept list result = (merging (merge_call one_group_plan kept 8 list), merged (record { answer = Words 8; buffers = result }))

abbrev pub overflows : List ℕ → List ℕ → Case
overflows kept list = not_merged (merge_call one_group_plan kept 8 list) 13

abbrev pub totals_past : List Case
totals_past =
    -- rows
    adds_up (totals_literal 0xFFFFFFFE 0xFFFFFFFF 0 0 0 0 0xC0000000 0xC0000000) plain_row (totals_literal 0xFFFFFFFF 0xFFFFFFFF 0 0 0 0 0xC0000000 0xC0000000)
    ∷ overflows (totals_literal 0xFFFFFFFF 0xFFFFFFFF 0 0 0 0 0xC0000000 0xC0000000) plain_row
    ∷ overflows plain_row (totals_literal 0xFFFFFFFF 0xFFFFFFFF 0 0 0 0 0xC0000000 0xC0000000)
    -- rows and numbers
    ∷ adds_up (totals_literal 0xFFFFFFFE 0xFFFFFFFF 0xFFFFFFFE 0xFFFFFFFF 0 0 0x40000000 0x40000000) (totals_literal 1 0 1 0 0 0 0x40000000 0x40000000)
    (totals_literal 0xFFFFFFFF 0xFFFFFFFF 0xFFFFFFFF 0xFFFFFFFF 0 0 0x40000000 0x40000000)
    ∷ overflows (totals_literal 0xFFFFFFFF 0xFFFFFFFF 0xFFFFFFFF 0xFFFFFFFF 0 0 0x40000000 0x40000000) (totals_literal 1 0 1 0 0 0 0x40000000 0x40000000)
    -- the sum, at both ends; from -1 to 0
    ∷ adds_up (totals_literal 1 0 1 0 0xFFFFFFFE 0x7FFFFFFF 0x40000005 0x40000005) (totals_literal 1 0 1 0 1 0 0x40000001 0x40000001)
    (totals_literal 2 0 2 0 0xFFFFFFFF 0x7FFFFFFF 0x40000001 0x40000005)
    ∷ overflows (totals_literal 1 0 1 0 0xFFFFFFFF 0x7FFFFFFF 0x40000005 0x40000005) (totals_literal 1 0 1 0 1 0 0x40000001 0x40000001)
    ∷ adds_up (totals_literal 1 0 1 0 1 0x80000000 0x7FFFFFFF 0x7FFFFFFF) (totals_literal 1 0 1 0 0xFFFFFFFF 0xFFFFFFFF 0x7FFFFFFF 0x7FFFFFFF)
    (totals_literal 2 0 2 0 0 0x80000000 0x7FFFFFFF 0x7FFFFFFF)
    ∷ overflows (totals_literal 1 0 1 0 0xFFFFFFFF 0xFFFFFFFF 0x7FFFFFFF 0x7FFFFFFF) (totals_literal 1 0 1 0 0 0x80000000 0x7FFFFFFF 0x7FFFFFFF)
    ∷ adds_up (totals_literal 1 0 1 0 0xFFFFFFFF 0xFFFFFFFF 0x7FFFFFFF 0x7FFFFFFF) (totals_literal 1 0 1 0 1 0 0x40000001 0x40000001)
    (totals_literal 2 0 2 0 0 0 0x7FFFFFFF 0x40000001)
    -- the carry into the high word
    ∷ adds_up (totals_literal 0xFFFFFFFF 0 0xFFFFFFFF 0 0xFFFFFFFF 0 0x40000005 0x40000005) (totals_literal 1 0 1 0 1 0 0x40000001 0x40000001)
    (totals_literal 0 1 0 1 0 1 0x40000001 0x40000005)
    ∷ []

-- ---- 14: the kept buffer is too short for the result: two rows, two groups; just long enough
abbrev pub kept_buffers : List Case
kept_buffers =
    not_merged (merge_call best_two (equal_rows 1) 3 (equal_rows 1)) 14
    ∷ (merging (merge_call best_two (equal_rows 1) 4 (equal_rows 1)), merged (record { answer = Words 4; buffers = equal_rows 2 }))
    ∷ not_merged (merge_call groups_plan (0x00000001 ∷ plain_row) 17 (0x00000002 ∷ plain_row)) 14
    ∷ (
      merging (merge_call groups_plan (0x00000001 ∷ plain_row) 18 (0x00000002 ∷ plain_row)),
      merged (record { answer = Words 18; buffers = 0x00000001 ∷ (plain_row ++ (0x00000002 ∷ plain_row)) }),
    )
    -- no more than k rows, and one record for one group, need no more room
    ∷ (merging (merge_call best_two (equal_rows 2) 4 (equal_rows 2)), merged (record { answer = Words 4; buffers = equal_rows 2 }))
    ∷ adds_up plain_row plain_row (totals_literal 2 0 0 0 0 0 0xC0000000 0xC0000000)
    ∷ []
