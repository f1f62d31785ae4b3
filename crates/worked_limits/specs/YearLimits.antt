-- The years that rows may have and plans may name, 1 to 9,999, on both sides, in literal words; and where 23 stands among the tests.
use Rattle.std.specs.Prelude.{ℕ, List, [], ◌∷◌, ◌++◌}
use Rattle.tables.specs.Tables.{Tables, tables_of}
use Rattle.worked_cases.specs.Calls.{Case, turn_call, merge_call, not_opened, not_turned, not_merged}
use Rattle.worked_cases.specs.Literals.{stems, of_year, opens_to, refuses, whole_from}
use Rattle.worked_limits.specs.Limits.{under_condition}
use Rattle.worked_limits.specs.Faults.{best_two}

-- the row (n1,n10,n100), with a year's word before it; twice, and three times
abbrev pub in_one : ℕ → Tables
in_one y = tables_of (y ∷ 0x00000001 ∷ 0x0000000A ∷ 0x00000064 ∷ []) (0 ∷ []) (0 ∷ [])

abbrev pub in_two : ℕ → ℕ → Tables
in_two y z =
    tables_of (y ∷ 0x00000001 ∷ 0x0000000A ∷ 0x00000064 ∷ z ∷ 0x00000001 ∷ 0x0000000A ∷ 0x00000064 ∷ []) (0 ∷ 1 ∷ []) (0 ∷ 1 ∷ [])

abbrev pub in_three : ℕ → ℕ → ℕ → Tables
in_three x y z =
    tables_of
    (x ∷ 0x00000001 ∷ 0x0000000A ∷ 0x00000064 ∷ y ∷ 0x00000001 ∷ 0x0000000A ∷ 0x00000064
    ∷ z ∷ 0x00000001 ∷ 0x0000000A ∷ 0x00000064 ∷ [])
    (0 ∷ 1 ∷ 2 ∷ []) (0 ∷ 1 ∷ 2 ∷ [])

-- that row of 2026 and some words more
abbrev pub and_more : List ℕ → Tables
and_more ws = tables_of (0x400007EA ∷ 0x00000001 ∷ 0x0000000A ∷ 0x00000064 ∷ ws) (0 ∷ []) (0 ∷ [])

-- ?0 n10 n100, rows ?0
abbrev pub plan : List ℕ
plan = under_condition (0x30000000 ∷ [])

-- the state at a place of a year
abbrev pub state_in_year : ℕ → ℕ → List ℕ
state_in_year year place = of_year year (0xE0000001 ∷ place ∷ [])

-- ---- the years of rows
abbrev pub of_rows : List Case
of_rows =
    -- 1 and 9,999
    opens_to (in_one 0x40000001) plan (state_in_year 0x00000001 0xF0000000)
    ∷ whole_from (in_one 0x40000001) plan (state_in_year 0x00000001 0xF0000000) 2 (0x00000001 ∷ [])
    ∷ opens_to (in_one 0x4000270F) plan (state_in_year 0x0000270F 0xF0000000)
    ∷ whole_from (in_one 0x4000270F) plan (state_in_year 0x0000270F 0xF0000000) 2 (0x00000001 ∷ [])
    -- 0 and 10,000; the greatest number, the least, and -1
    ∷ refuses (in_one 0x40000000) plan 23
    ∷ refuses (in_one 0x40002710) plan 23
    ∷ refuses (in_one 0x5FFFFFFF) plan 23
    ∷ refuses (in_one 0x60000000) plan 23
    ∷ refuses (in_one 0x7FFFFFFF) plan 23
    -- the value counts whole: 2026 and 2^16, 2026 and 2^29
    ∷ refuses (in_one 0x400107EA) plan 23
    ∷ refuses (in_one 0x600007EA) plan 23
    -- a name, a text or unbound is no year: 2
    ∷ refuses (in_one 0x000007EA) plan 2
    ∷ refuses (in_one 0x800007EA) plan 2
    ∷ refuses (in_one 0xC0000000) plan 2
    -- a kind of the last row comes before a year of the first; a year of the last row before the order of the others
    ∷ refuses (in_two 0x40002710 0x000007EA) plan 2
    ∷ refuses (in_three 0x400007EA 0x400007E9 0x40002710) plan 23
    ∷ refuses (in_two 0x400007EA 0x400007E9) plan 3
    ∷ refuses (in_two 0x400007EA 0x400007EA) plan 3
    ∷ opens_to (in_two 0x400007E9 0x400007EA) plan (state_in_year 0x000007EA 0xF0000001)
    -- rows of 3, 5, 6 and 7 words, with a number for each whole one in both lists: 1
    ∷ refuses (tables_of (0x00000001 ∷ 0x0000000A ∷ 0x00000064 ∷ []) [] []) plan 1
    ∷ refuses (and_more (0x400007EB ∷ [])) plan 1
    ∷ refuses (and_more (0x400007EB ∷ 0x00000001 ∷ [])) plan 1
    ∷ refuses (and_more (0x400007EB ∷ 0x00000001 ∷ 0x0000000A ∷ [])) plan 1
    -- lengths before it; lists and the plan behind it; and a turn's tests are in that order too
    ∷ refuses (tables_of (0x40002710 ∷ 0x00000001 ∷ 0x0000000A ∷ 0x00000064 ∷ []) [] []) plan 1
    ∷ refuses (tables_of (0x40002710 ∷ 0x00000001 ∷ 0x0000000A ∷ 0x00000064 ∷ []) (1 ∷ []) (0 ∷ [])) [] 23
    ∷ not_turned (turn_call (in_two 0x40002710 0x000007EA) plan [] 0 [] 0) 2
    ∷ not_turned (turn_call (in_one 0x40002710) [] [] 0 [] 0) 23
    ∷ []

-- ---- the years of plans
abbrev pub of_plan_years : List Case
of_plan_years =
    -- 1 and 9,999: the rows of the wood stand between
    opens_to stems (0x00000001 ∷ plan) (state_in_year 0x00000001 0xF0000000)
    ∷ opens_to stems (0x0000270F ∷ plan) (state_in_year 0x0000270F 0xF0000006)
    -- 10,000, and the most that the word holds; the number counts whole: 2^14, 2^16, 2026 and 2^16, 2026 and 2^27
    ∷ refuses stems (0x00002710 ∷ plan) 23
    ∷ refuses stems (0x0FFFFFFF ∷ plan) 23
    ∷ refuses stems (0x00004000 ∷ plan) 23
    ∷ refuses stems (0x00010000 ∷ plan) 23
    ∷ refuses stems (0x000107EA ∷ plan) 23
    ∷ refuses stems (0x080007EA ∷ plan) 23
    -- the tables' tests, form and variables come before it; buffers, the quantum and the state behind it
    ∷ refuses (in_two 0x400007EA 0x400007E9) (0x00002710 ∷ plan) 3
    ∷ refuses (tables_of stems.rows stems.pos (0 ∷ 2 ∷ 1 ∷ 4 ∷ 3 ∷ 5 ∷ [])) (0x00002710 ∷ plan) 4
    ∷ refuses stems (0x00002710 ∷ (plan ++ (0x00000000 ∷ []))) 5
    ∷ refuses stems (0x00002710 ∷ under_condition (0x70000000 ∷ 0xC0000010 ∷ 0x00000001 ∷ [])) 6
    ∷ not_opened stems (0x00002710 ∷ plan) [] 23
    ∷ not_turned (turn_call stems (0x00002710 ∷ plan) [] 0 [] 0) 23
    -- merging looks at the plan too, before its lists
    ∷ not_merged (merge_call (0x00002710 ∷ best_two) [] 8 (0x00000001 ∷ [])) 23
    ∷ not_merged (merge_call (0x0000270F ∷ best_two) [] 8 (0x00000001 ∷ [])) 12
    ∷ not_merged (merge_call (0x00002710 ∷ (best_two ++ (0x00000000 ∷ []))) [] 8 []) 5
    ∷ []
