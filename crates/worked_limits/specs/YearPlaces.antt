-- Places of years, in literal words: three orders that differ, each with the year first; where a range lies in one year and in the next; a year without
-- rows between two that have some; places of another year; and lists over the rows of both.
use Rattle.std.specs.Prelude.{ℕ}
use mathlib.Core.List.{List, [], ◌∷◌, ◌++◌, flatten}
use Rattle.tables.specs.Tables.{Tables, tables_of}
use Rattle.turns.specs.declared.TurnEnding.TheVariants.{Spent}
use Rattle.worked_cases.specs.Calls.{Case, turn_call, turn_case, not_turned}
use Rattle.worked_cases.specs.Literals.{ending0, ending01, all_diameters, opens_to, refuses, whole_from}
use Rattle.worked_limits.specs.YearLimits.{state_in_year}

-- (n1,n2,n9) (n2,n1,n8) (n3,n3,n7), in 2024 and again in 2026
abbrev pub rows_of_year : ℕ → List ℕ
rows_of_year y = y ∷ 1 ∷ 2 ∷ 9 ∷ y ∷ 2 ∷ 1 ∷ 8 ∷ y ∷ 3 ∷ 3 ∷ 7 ∷ []

abbrev pub listed : List ℕ → List ℕ → Tables
listed pos osp = tables_of (rows_of_year 0x400007E8 ++ rows_of_year 0x400007EA) pos osp

-- by year, predicate, object, subject; by year, object, subject, predicate
abbrev pub year_pos : List ℕ
year_pos = 1 ∷ 0 ∷ 2 ∷ 4 ∷ 3 ∷ 5 ∷ []

abbrev pub year_osp : List ℕ
year_osp = 2 ∷ 1 ∷ 0 ∷ 5 ∷ 4 ∷ 3 ∷ []

abbrev pub apart : Tables
apart = listed year_pos year_osp

-- one pattern and "true", with a word of some years before the head
abbrev pub asks_of : ℕ → ℕ → ℕ → ℕ → List ℕ → List ℕ
asks_of years s p o ending = years ∷ 0x10000001 ∷ 0x20000001 ∷ s ∷ p ∷ o ∷ 0x30000000 ∷ ending

-- ?0 ?1 ?2 of every year
abbrev pub all_rows : List ℕ
all_rows = asks_of 0x00000000 0xC0000000 0xC0000001 0xC0000002 (0x80000003 ∷ 0xC0000000 ∷ 0xC0000001 ∷ 0xC0000002 ∷ [])

-- ---- the year is first in all three orders
abbrev pub year_orders : List Case
year_orders =
    opens_to apart all_rows (state_in_year 0x000007E8 0xF0000000)
    -- POS by predicate, object, subject and then the year; OSP by object, subject, predicate and then the year; the later year first in each
    ∷ refuses (listed (1 ∷ 4 ∷ 0 ∷ 3 ∷ 2 ∷ 5 ∷ []) year_osp) all_rows 4
    ∷ refuses (listed year_pos (2 ∷ 5 ∷ 1 ∷ 4 ∷ 0 ∷ 3 ∷ [])) all_rows 4
    ∷ refuses (listed (4 ∷ 3 ∷ 5 ∷ 1 ∷ 0 ∷ 2 ∷ []) year_osp) all_rows 4
    ∷ refuses (listed year_pos (5 ∷ 4 ∷ 3 ∷ 2 ∷ 1 ∷ 0 ∷ [])) all_rows 4
    -- rows by subject, predicate, object and then the year; the later year first
    ∷ refuses
    (tables_of
    (0x400007E8 ∷ 1 ∷ 2 ∷ 9 ∷ 0x400007EA ∷ 1 ∷ 2 ∷ 9 ∷ 0x400007E8 ∷ 2 ∷ 1 ∷ 8
    ∷ 0x400007EA ∷ 2 ∷ 1 ∷ 8 ∷ 0x400007E8 ∷ 3 ∷ 3 ∷ 7 ∷ 0x400007EA ∷ 3 ∷ 3 ∷ 7 ∷ [])
    year_pos year_osp)
    all_rows 3
    ∷ refuses (tables_of (rows_of_year 0x400007EA ++ rows_of_year 0x400007E8) year_pos year_osp) all_rows 3
    ∷ []

-- ---- where a range starts in 2024 and where in 2026: the rows of a year and one step more lead from one to the other, or to done
abbrev pub in_both : ℕ → ℕ → ℕ → List ℕ → ℕ → ℕ → ℕ → List ℕ → List Case
in_both s p o ending first second steps list =
    opens_to apart (asks_of 0x00000000 s p o ending) (state_in_year 0x000007E8 first)
    ∷ turn_case (turn_call apart (asks_of 0x00000000 s p o ending) (state_in_year 0x000007E8 first) steps [] 128) Spent steps
    (state_in_year 0x000007EA second) list
    ∷ whole_from apart (asks_of 0x00000000 s p o ending) (state_in_year 0x000007EA second) steps list
    ∷ []

abbrev pub year_ranges : List Case
year_ranges =
    flatten
    -- in SPO: none, ?0 ?1 ?2; S, n2 ?0 ?1; SP, n2 n1 ?0
    (in_both 0xC0000000 0xC0000001 0xC0000002 (0x80000003 ∷ 0xC0000000 ∷ 0xC0000001 ∷ 0xC0000002 ∷ []) 0xF0000000 0xF0000003 4
    (1 ∷ 2 ∷ 9 ∷ 2 ∷ 1 ∷ 8 ∷ 3 ∷ 3 ∷ 7 ∷ [])
    ∷ in_both 2 0xC0000000 0xC0000001 ending01 0xF0000001 0xF0000004 2 (1 ∷ 8 ∷ [])
    ∷ in_both 2 1 0xC0000000 ending0 0xF0000001 0xF0000004 2 (8 ∷ [])
    -- in POS: P, ?0 n3 ?1; PO, ?0 n1 n8
    ∷ in_both 0xC0000000 3 0xC0000001 ending01 0xF0000002 0xF0000005 2 (3 ∷ 7 ∷ [])
    ∷ in_both 0xC0000000 1 8 ending0 0xF0000000 0xF0000003 2 (2 ∷ [])
    -- in OSP: O, ?0 ?1 n9; OS, n1 ?0 n9
    ∷ in_both 0xC0000000 0xC0000001 9 ending01 0xF0000002 0xF0000005 2 (1 ∷ 2 ∷ [])
    ∷ in_both 1 0xC0000000 9 ending0 0xF0000002 0xF0000005 2 (2 ∷ [])
    -- empty in both, where the rows would stand: ?0 n0 ?1, ?0 n4 ?1, n4 ?0 ?1, ?0 ?1 i0
    ∷ in_both 0xC0000000 0 0xC0000001 ending01 0xF0000000 0xF0000003 1 []
    ∷ in_both 0xC0000000 4 0xC0000001 ending01 0xF0000003 0xF0000006 1 []
    ∷ in_both 4 0xC0000000 0xC0000001 ending01 0xF0000003 0xF0000006 1 []
    ∷ in_both 0xC0000000 0xC0000001 0x40000000 ending01 0xF0000003 0xF0000006 1 []
    ∷ [])

-- ---- 2025, which has no rows, lies between; and places of another year
abbrev pub in2025 : ℕ → ℕ → ℕ → List ℕ → List Case
in2025 s p o ending =
    opens_to apart (asks_of 0x000007E9 s p o ending) (state_in_year 0x000007E9 0xF0000003)
    ∷ whole_from apart (asks_of 0x000007E9 s p o ending) (state_in_year 0x000007E9 0xF0000003) 1 []
    ∷ []

abbrev pub not_at_year : ℕ → ℕ → ℕ → Case
not_at_year year place x = not_turned (turn_call apart all_rows (state_in_year year place) 5 [] 128) x

-- ?0 n2 ?1 of every year
abbrev pub second : List ℕ
second = asks_of 0x00000000 0xC0000000 2 0xC0000001 ending01

abbrev pub between_years : List Case
between_years =
    flatten
    (in2025 0xC0000000 2 0xC0000001 ending01
    ∷ in2025 2 0xC0000000 0xC0000001 ending01
    ∷ in2025 0xC0000000 0xC0000001 9 ending01
    -- 2024 has places 0 to 3, its end; 2026 has 3 to 6; 2025 is not read where every year is
    ∷ (turn_case (turn_call apart all_rows (state_in_year 0x000007E8 0xF0000003) 1 [] 128) Spent 1 (state_in_year 0x000007EA 0xF0000003) []
    ∷ not_at_year 0x000007E8 0xF0000004 10
    ∷ not_at_year 0x000007EA 0xF0000002 10
    ∷ not_at_year 0x000007EA 0xF0000007 10
    ∷ not_at_year 0x000007E9 0xF0000003 9
    -- a year's word counts whole: 2026 and 2^16, 2026 and 2^27
    ∷ not_at_year 0x000107EA 0xF0000003 9
    ∷ not_at_year 0x080007EA 0xF0000003 9
    -- a place of the year before its range, and one of 2024 in the range of 2026
    ∷ not_turned (turn_call apart second (state_in_year 0x000007EA 0xF0000003) 5 [] 128) 10
    ∷ not_turned (turn_call apart second (state_in_year 0x000007EA 0xF0000001) 5 [] 128) 10
    ∷ [])
    ∷ [])

-- ---- lists over years: the stem n9 measures 310 in 2025, the stem n1 in 2026; the plan is ?0 n12 ?1 of every year
abbrev pub two_stems : Tables
two_stems = tables_of (0x400007E9 ∷ 9 ∷ 12 ∷ 0x40000136 ∷ 0x400007EA ∷ 1 ∷ 12 ∷ 0x40000136 ∷ []) (0 ∷ 1 ∷ []) (0 ∷ 1 ∷ [])

abbrev pub whole_of : List ℕ → List ℕ → Case
whole_of ending list = whole_from two_stems (0x00000000 ∷ all_diameters ending) (state_in_year 0x000007E9 0xF0000000) 4 list

abbrev pub year_lists : List Case
year_lists =
    -- in the order of delivery; equal in the key, rising or falling: that of the earlier year first
    whole_of ending01 (9 ∷ 0x40000136 ∷ 1 ∷ 0x40000136 ∷ [])
    ∷ whole_of (0x90000001 ∷ (ending01 ++ (0xA0000001 ∷ []))) (9 ∷ 0x40000136 ∷ [])
    ∷ whole_of (0x90000001 ∷ (ending01 ++ (0xB0000001 ∷ []))) (9 ∷ 0x40000136 ∷ [])
    ∷ whole_of (0x90000002 ∷ (ending01 ++ (0xB0000001 ∷ []))) (9 ∷ 0x40000136 ∷ 1 ∷ 0x40000136 ∷ [])
    -- by ?1, measuring ?1: one group has the rows of both years; by ?0: the groups of both in ascending order
    ∷ whole_of (0xC0000001 ∷ 0xC0000001 ∷ 0xC0000001 ∷ []) (0x40000136 ∷ 2 ∷ 0 ∷ 2 ∷ 0 ∷ 620 ∷ 0 ∷ 0x40000136 ∷ 0x40000136 ∷ [])
    ∷ whole_of (0xC0000001 ∷ 0xC0000000 ∷ 0xC0000001 ∷ [])
    (1 ∷ 1 ∷ 0 ∷ 1 ∷ 0 ∷ 310 ∷ 0 ∷ 0x40000136 ∷ 0x40000136 ∷ 9 ∷ 1 ∷ 0 ∷ 1 ∷ 0 ∷ 310 ∷ 0 ∷ 0x40000136 ∷ 0x40000136 ∷ [])
    ∷ []
