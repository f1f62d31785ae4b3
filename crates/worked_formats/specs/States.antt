-- Saved states in literal words: every state of a run through two branches, and of one through two years, a state with the most words, and words
-- that are no state.
use Rattle.std.specs.Prelude.{ℕ}
use mathlib.Core.List.{List, [], ◌∷◌, flatten}
use Rattle.tables.specs.Tables.{Tables, tables_of}
use Rattle.turns.specs.declared.TurnEnding.TheVariants.{Done, Spent, Full}
use Rattle.worked_cases.specs.Calls.{Case, turn_call, turn_case, not_turned}
use Rattle.worked_cases.specs.Literals.{stems, ending01, all_diameters, of_year, in2026, opens_to, whole_run}

-- branch 0: ?0 n10 n100. branch 1: plan A's, ?0 n10 n100, ?0 n12 ?1, ?1 ≥ i70. rows ?0 ?1
abbrev pub two_branches : List ℕ
two_branches =
    0x10000002
    ∷ 0x20000001 ∷ 0xC0000000 ∷ 0x0000000A ∷ 0x00000064 ∷ 0x30000000
    ∷ 0x20000002 ∷ 0xC0000000 ∷ 0x0000000A ∷ 0x00000064 ∷ 0xC0000000 ∷ 0x0000000C ∷ 0xC0000001 ∷ 0x70000005 ∷ 0xC0000001 ∷ 0x40000046
    ∷ 0x80000002 ∷ 0xC0000000 ∷ 0xC0000001 ∷ []

-- a turn of `n` steps from a state's words to the next state's, with its list
abbrev pub goes : ℕ → List ℕ → List ℕ → List ℕ → Case
goes n from to list = turn_case (turn_call stems two_branches from n [] 128) Spent n to list

-- the first word of a state is the survey's, the second the year's, the third branch × 16 + depth; a place's word follows for each level
abbrev pub through_branches : List Case
through_branches =
    opens_to stems two_branches (0xD0000007 ∷ 0x000007EA ∷ 0xE0000001 ∷ 0xF0000000 ∷ [])
    -- branch 0 delivers n1, n2 and n3, with ?1 unbound
    ∷ goes 1 (in2026 (0xE0000001 ∷ 0xF0000000 ∷ [])) (in2026 (0xE0000001 ∷ 0xF0000001 ∷ [])) (0x00000001 ∷ 0xC0000000 ∷ [])
    ∷ goes 1 (in2026 (0xE0000001 ∷ 0xF0000001 ∷ [])) (in2026 (0xE0000001 ∷ 0xF0000002 ∷ [])) (0x00000002 ∷ 0xC0000000 ∷ [])
    ∷ goes 1 (in2026 (0xE0000001 ∷ 0xF0000002 ∷ [])) (in2026 (0xE0000001 ∷ 0xF0000003 ∷ [])) (0x00000003 ∷ 0xC0000000 ∷ [])
    -- its end: branch 1 starts
    ∷ goes 1 (in2026 (0xE0000001 ∷ 0xF0000003 ∷ [])) (in2026 (0xE0000011 ∷ 0xF0000000 ∷ [])) []
    -- n1 opens its second level at place 1, fails the condition, and leaves
    ∷ goes 1 (in2026 (0xE0000011 ∷ 0xF0000000 ∷ [])) (in2026 (0xE0000012 ∷ 0xF0000000 ∷ 0xF0000001 ∷ [])) []
    ∷ goes 1 (in2026 (0xE0000012 ∷ 0xF0000000 ∷ 0xF0000001 ∷ [])) (in2026 (0xE0000012 ∷ 0xF0000000 ∷ 0xF0000002 ∷ [])) []
    ∷ goes 1 (in2026 (0xE0000012 ∷ 0xF0000000 ∷ 0xF0000002 ∷ [])) (in2026 (0xE0000011 ∷ 0xF0000001 ∷ [])) []
    -- n2 is delivered
    ∷ goes 1 (in2026 (0xE0000011 ∷ 0xF0000001 ∷ [])) (in2026 (0xE0000012 ∷ 0xF0000001 ∷ 0xF0000003 ∷ [])) []
    ∷ goes 1 (in2026 (0xE0000012 ∷ 0xF0000001 ∷ 0xF0000003 ∷ [])) (in2026 (0xE0000012 ∷ 0xF0000001 ∷ 0xF0000004 ∷ []))
    (0x00000002 ∷ 0x40000136 ∷ [])
    ∷ goes 1 (in2026 (0xE0000012 ∷ 0xF0000001 ∷ 0xF0000004 ∷ [])) (in2026 (0xE0000011 ∷ 0xF0000002 ∷ [])) []
    -- n3 is delivered
    ∷ goes 1 (in2026 (0xE0000011 ∷ 0xF0000002 ∷ [])) (in2026 (0xE0000012 ∷ 0xF0000002 ∷ 0xF0000005 ∷ [])) []
    ∷ goes 1 (in2026 (0xE0000012 ∷ 0xF0000002 ∷ 0xF0000005 ∷ [])) (in2026 (0xE0000012 ∷ 0xF0000002 ∷ 0xF0000006 ∷ []))
    (0x00000003 ∷ 0x40000136 ∷ [])
    ∷ goes 1 (in2026 (0xE0000012 ∷ 0xF0000002 ∷ 0xF0000006 ∷ [])) (in2026 (0xE0000011 ∷ 0xF0000003 ∷ [])) []
    ∷ turn_case (turn_call stems two_branches (in2026 (0xE0000011 ∷ 0xF0000003 ∷ [])) 1 [] 128) Done 1 [] []
    -- several steps at once: into branch 1; to the row of n2, for which an output of three rows has no space
    ∷ goes 6 (in2026 (0xE0000001 ∷ 0xF0000000 ∷ [])) (in2026 (0xE0000012 ∷ 0xF0000000 ∷ 0xF0000002 ∷ []))
    (0x00000001 ∷ 0xC0000000 ∷ 0x00000002 ∷ 0xC0000000 ∷ 0x00000003 ∷ 0xC0000000 ∷ [])
    ∷ turn_case (turn_call stems two_branches (in2026 (0xE0000001 ∷ 0xF0000000 ∷ [])) 14 [] 6) Full 8
    (in2026 (0xE0000012 ∷ 0xF0000001 ∷ 0xF0000003 ∷ []))
    (0x00000001 ∷ 0xC0000000 ∷ 0x00000002 ∷ 0xC0000000 ∷ 0x00000003 ∷ 0xC0000000 ∷ [])
    ∷ []

-- ---- two years: (n2,n12,i310) in 2025, (n2,n12,i330) in 2026; the plan is ?0 n12 ?1, with the word of every year before its head
abbrev pub measured_twice : Tables
measured_twice =
    tables_of (0x400007E9 ∷ 0x00000002 ∷ 0x0000000C ∷ 0x40000136 ∷ 0x400007EA ∷ 0x00000002 ∷ 0x0000000C ∷ 0x4000014A ∷ [])
    (0 ∷ 1 ∷ []) (0 ∷ 1 ∷ [])

abbrev pub one_step : List ℕ → List ℕ → List ℕ → Case
one_step from to list = turn_case (turn_call measured_twice (0x00000000 ∷ all_diameters ending01) from 1 [] 128) Spent 1 to list

abbrev pub through_years : List Case
through_years =
    opens_to measured_twice (0x00000000 ∷ all_diameters ending01) (0xD0000007 ∷ 0x000007E9 ∷ 0xE0000001 ∷ 0xF0000000 ∷ [])
    ∷ one_step (of_year 0x000007E9 (0xE0000001 ∷ 0xF0000000 ∷ [])) (of_year 0x000007E9 (0xE0000001 ∷ 0xF0000001 ∷ [])) (0x00000002 ∷ 0x40000136 ∷ [])
    -- the end of 2025 and the start of 2026 are the same place
    ∷ one_step (of_year 0x000007E9 (0xE0000001 ∷ 0xF0000001 ∷ [])) (of_year 0x000007EA (0xE0000001 ∷ 0xF0000001 ∷ [])) []
    ∷ one_step (of_year 0x000007EA (0xE0000001 ∷ 0xF0000001 ∷ [])) (of_year 0x000007EA (0xE0000001 ∷ 0xF0000002 ∷ [])) (0x00000002 ∷ 0x4000014A ∷ [])
    ∷ turn_case (turn_call measured_twice (0x00000000 ∷ all_diameters ending01) (in2026 (0xE0000001 ∷ 0xF0000002 ∷ [])) 1 [] 128) Done 1 [] []
    -- a place of the other year: 10
    ∷ not_turned (turn_call measured_twice (0x00000000 ∷ all_diameters ending01) (of_year 0x000007E9 (0xE0000001 ∷ 0xF0000002 ∷ [])) 1 [] 128) 10
    ∷ not_turned (turn_call measured_twice (0x00000000 ∷ all_diameters ending01) (of_year 0x000007EA (0xE0000001 ∷ 0xF0000000 ∷ [])) 1 [] 128) 10
    ∷ []

-- the latest year; 2025, which is named; 2024 and 2027, which have no rows
abbrev pub single_years : List Case
single_years =
    flatten
    (whole_run measured_twice (all_diameters ending01) (of_year 0x000007EA (0xE0000001 ∷ 0xF0000001 ∷ [])) 2 (0x00000002 ∷ 0x4000014A ∷ [])
    ∷ whole_run measured_twice (0x000007E9 ∷ all_diameters ending01) (of_year 0x000007E9 (0xE0000001 ∷ 0xF0000000 ∷ [])) 2
    (0x00000002 ∷ 0x40000136 ∷ [])
    ∷ whole_run measured_twice (0x000007E8 ∷ all_diameters ending01) (of_year 0x000007E8 (0xE0000001 ∷ 0xF0000000 ∷ [])) 1 []
    ∷ whole_run measured_twice (0x000007EB ∷ all_diameters ending01) (of_year 0x000007EB (0xE0000001 ∷ 0xF0000002 ∷ [])) 1 []
    ∷ [])

-- ---- the most branches and the most patterns: three branches ?0 n11 n100, which are empty, and one of ?0 n10 n100 eight times
abbrev pub deep_plan : List ℕ
deep_plan =
    0x10000004
    ∷ 0x20000001 ∷ 0xC0000000 ∷ 0x0000000B ∷ 0x00000064 ∷ 0x30000000
    ∷ 0x20000001 ∷ 0xC0000000 ∷ 0x0000000B ∷ 0x00000064 ∷ 0x30000000
    ∷ 0x20000001 ∷ 0xC0000000 ∷ 0x0000000B ∷ 0x00000064 ∷ 0x30000000
    ∷ 0x20000008
    ∷ 0xC0000000 ∷ 0x0000000A ∷ 0x00000064 ∷ 0xC0000000 ∷ 0x0000000A ∷ 0x00000064
    ∷ 0xC0000000 ∷ 0x0000000A ∷ 0x00000064 ∷ 0xC0000000 ∷ 0x0000000A ∷ 0x00000064
    ∷ 0xC0000000 ∷ 0x0000000A ∷ 0x00000064 ∷ 0xC0000000 ∷ 0x0000000A ∷ 0x00000064
    ∷ 0xC0000000 ∷ 0x0000000A ∷ 0x00000064 ∷ 0xC0000000 ∷ 0x0000000A ∷ 0x00000064
    ∷ 0x30000000
    ∷ 0x80000001 ∷ 0xC0000000 ∷ []

-- eleven words: survey 7, 2026, branch 3 at depth 8, n2 at place 1 of POS, and at place 2 of SPO seven times
abbrev pub eleven_words : List ℕ
eleven_words =
    0xD0000007 ∷ 0x000007EA
    ∷ 0xE0000038 ∷ 0xF0000001 ∷ 0xF0000002 ∷ 0xF0000002 ∷ 0xF0000002 ∷ 0xF0000002 ∷ 0xF0000002 ∷ 0xF0000002 ∷ 0xF0000002 ∷ []

abbrev pub deep_states : List Case
deep_states =
    opens_to stems deep_plan (in2026 (0xE0000001 ∷ 0xF0000003 ∷ []))
    -- an empty branch takes one step
    ∷ turn_case (turn_call stems deep_plan (in2026 (0xE0000001 ∷ 0xF0000003 ∷ [])) 1 [] 1) Spent 1 (in2026 (0xE0000011 ∷ 0xF0000003 ∷ [])) []
    ∷ turn_case (turn_call stems deep_plan (in2026 (0xE0000001 ∷ 0xF0000003 ∷ [])) 2 [] 1) Spent 2 (in2026 (0xE0000021 ∷ 0xF0000003 ∷ [])) []
    ∷ turn_case (turn_call stems deep_plan (in2026 (0xE0000001 ∷ 0xF0000003 ∷ [])) 3 [] 1) Spent 3 (in2026 (0xE0000031 ∷ 0xF0000000 ∷ [])) []
    -- seven levels down, the row n1, seven levels up again; then n2 at depth 8
    ∷ turn_case (turn_call stems deep_plan (in2026 (0xE0000031 ∷ 0xF0000000 ∷ [])) 22 [] 1) Spent 22 eleven_words (0x00000001 ∷ [])
    ∷ turn_case (turn_call stems deep_plan eleven_words 1 [] 1) Spent 1
    (in2026 (0xE0000038 ∷ 0xF0000001 ∷ 0xF0000002 ∷ 0xF0000002 ∷ 0xF0000002 ∷ 0xF0000002 ∷ 0xF0000002 ∷ 0xF0000002 ∷ 0xF0000003 ∷ []))
    (0x00000002 ∷ [])
    ∷ []

-- ---- words that are no state of the plan of two branches, 9; and states that its run does not pass through, 10
abbrev pub refused_by : ℕ → List ℕ → Case
refused_by x words = not_turned (turn_call stems two_branches words 5 [] 128) x

abbrev pub wrong_states : List Case
wrong_states =
    refused_by 9 []
    -- no word behind the survey's, or behind the year's; no survey's word, or one of a wrong kind: 14, 12 and 0
    ∷ refused_by 9 (0xD0000007 ∷ [])
    ∷ refused_by 9 (in2026 [])
    ∷ refused_by 9 (0x000007EA ∷ 0xE0000011 ∷ 0xF0000000 ∷ [])
    ∷ refused_by 9 (0xE0000007 ∷ 0x000007EA ∷ 0xE0000011 ∷ 0xF0000000 ∷ [])
    ∷ refused_by 9 (0xC0000007 ∷ 0x000007EA ∷ 0xE0000011 ∷ 0xF0000000 ∷ [])
    ∷ refused_by 9 (0x00000007 ∷ 0x000007EA ∷ 0xE0000011 ∷ 0xF0000000 ∷ [])
    -- no year's word, or one of a wrong kind: 1, 4, as the number in a row has it, and 13; another year: 2025, 2027 and 0
    ∷ refused_by 9 (0xD0000007 ∷ 0xE0000011 ∷ 0xF0000000 ∷ [])
    ∷ refused_by 9 (of_year 0x100007EA (0xE0000011 ∷ 0xF0000000 ∷ []))
    ∷ refused_by 9 (of_year 0x400007EA (0xE0000011 ∷ 0xF0000000 ∷ []))
    ∷ refused_by 9 (of_year 0xD00007EA (0xE0000011 ∷ 0xF0000000 ∷ []))
    ∷ refused_by 9 (of_year 0x000007E9 (0xE0000011 ∷ 0xF0000000 ∷ []))
    ∷ refused_by 9 (of_year 0x000007EB (0xE0000011 ∷ 0xF0000000 ∷ []))
    ∷ refused_by 9 (of_year 0x00000000 (0xE0000011 ∷ 0xF0000000 ∷ []))
    -- a wrong kind: as position 15, 13 and 0, as place 14 and 0
    ∷ refused_by 9 (in2026 (0xF0000011 ∷ 0xF0000000 ∷ []))
    ∷ refused_by 9 (in2026 (0xD0000011 ∷ 0xF0000000 ∷ []))
    ∷ refused_by 9 (in2026 (0x00000011 ∷ 0xF0000000 ∷ []))
    ∷ refused_by 9 (in2026 (0xF0000011 ∷ 0xE0000000 ∷ []))
    ∷ refused_by 9 (in2026 (0xE0000011 ∷ 0xE0000000 ∷ []))
    ∷ refused_by 9 (in2026 (0xE0000011 ∷ 0x00000000 ∷ []))
    ∷ refused_by 9 (in2026 (0xE0000012 ∷ 0xF0000000 ∷ 0xE0000001 ∷ []))
    -- branch 2; depth 0; a depth above the branch's patterns
    ∷ refused_by 9 (in2026 (0xE0000021 ∷ 0xF0000000 ∷ []))
    ∷ refused_by 9 (in2026 (0xE0000010 ∷ []))
    ∷ refused_by 9 (in2026 (0xE0000002 ∷ 0xF0000000 ∷ 0xF0000001 ∷ []))
    ∷ refused_by 9 (in2026 (0xE0000013 ∷ 0xF0000000 ∷ 0xF0000001 ∷ 0xF0000001 ∷ []))
    -- a place too few, a place too many
    ∷ refused_by 9 (in2026 (0xE0000012 ∷ 0xF0000000 ∷ []))
    ∷ refused_by 9 (in2026 (0xE0000011 ∷ 0xF0000000 ∷ 0xF0000001 ∷ []))
    -- the last place past the range's end, and before its start; an upper place at its range's end
    ∷ refused_by 10 (in2026 (0xE0000011 ∷ 0xF0000004 ∷ []))
    ∷ refused_by 10 (in2026 (0xE0000012 ∷ 0xF0000001 ∷ 0xF0000005 ∷ []))
    ∷ refused_by 10 (in2026 (0xE0000012 ∷ 0xF0000001 ∷ 0xF0000002 ∷ []))
    ∷ refused_by 10 (in2026 (0xE0000012 ∷ 0xF0000003 ∷ 0xF0000006 ∷ []))
    -- any number of 28 bits is a place, and no matter of 9: 65,536, 65,537 and 2^28 - 1, as the last place and as one above it
    ∷ refused_by 10 (in2026 (0xE0000011 ∷ 0xF0010000 ∷ []))
    ∷ refused_by 10 (in2026 (0xE0000011 ∷ 0xF0010001 ∷ []))
    ∷ refused_by 10 (in2026 (0xE0000011 ∷ 0xFFFFFFFF ∷ []))
    ∷ refused_by 10 (in2026 (0xE0000012 ∷ 0xF0000000 ∷ 0xF0010001 ∷ []))
    ∷ refused_by 10 (in2026 (0xE0000012 ∷ 0xF0010001 ∷ 0xF0000001 ∷ []))
    ∷ refused_by 10 (in2026 (0xE0000012 ∷ 0xFFFFFFFF ∷ 0xFFFFFFFF ∷ []))
    ∷ []
