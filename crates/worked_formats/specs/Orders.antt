-- Which order a level scans by its fixed fields, from which place, and where an empty range lies: each pattern opened and run to its
-- end, the words of the start and of the rows literal.
use Rattle.std.specs.Prelude.{ℕ}
use mathlib.Core.List.{List, [], ◌∷◌, flatten}
use Rattle.tables.specs.Tables.{Tables}
use Rattle.turns.specs.declared.TurnEnding.TheVariants.{Spent}
use Rattle.worked_cases.specs.Calls.{Case, turn_call, turn_case, not_turned}
use Rattle.worked_cases.specs.Literals.{stems, ending0, ending01, in2026, at_place, refuses, whole_run}

-- a branch of one pattern, "true", and rows
abbrev pub one_pattern : ℕ → ℕ → ℕ → List ℕ → List ℕ
one_pattern s p o ending = 0x10000001 ∷ 0x20000001 ∷ s ∷ p ∷ o ∷ 0x30000000 ∷ ending

abbrev pub ending012 : List ℕ
ending012 = 0x80000003 ∷ 0xC0000000 ∷ 0xC0000001 ∷ 0xC0000002 ∷ []

-- ---- the places of the three-stem wood. SPO: rows 0 1 2 3 4 5; POS and OSP: rows 0 2 4 1 3 5
abbrev pub fixed_fields : List Case
fixed_fields =
    flatten
    -- none, ?0 ?1 ?2, in SPO: the rows as they stand, without their year
    (whole_run stems (one_pattern 0xC0000000 0xC0000001 0xC0000002 ending012) (at_place 0xF0000000) 7
    (0x00000001 ∷ 0x0000000A ∷ 0x00000064 ∷ 0x00000001 ∷ 0x0000000C ∷ 0x4000002D
    ∷ 0x00000002 ∷ 0x0000000A ∷ 0x00000064 ∷ 0x00000002 ∷ 0x0000000C ∷ 0x40000136
    ∷ 0x00000003 ∷ 0x0000000A ∷ 0x00000064 ∷ 0x00000003 ∷ 0x0000000C ∷ 0x40000136 ∷ [])
    -- S, n2 ?0 ?1, in SPO from place 2
    ∷ whole_run stems (one_pattern 0x00000002 0xC0000000 0xC0000001 ending01) (at_place 0xF0000002) 3
    (0x0000000A ∷ 0x00000064 ∷ 0x0000000C ∷ 0x40000136 ∷ [])
    -- SP, n2 n12 ?0, in SPO from place 3
    ∷ whole_run stems (one_pattern 0x00000002 0x0000000C 0xC0000000 ending0) (at_place 0xF0000003) 2 (0x40000136 ∷ [])
    -- SPO, n2 n12 i310, in SPO from place 3; a second pattern, ?0 n10 n100, has a variable for the rows
    ∷ whole_run stems
    (0x10000001 ∷ 0x20000002 ∷ 0x00000002 ∷ 0x0000000C ∷ 0x40000136 ∷ 0xC0000000 ∷ 0x0000000A ∷ 0x00000064 ∷ 0x30000000 ∷ ending0)
    (at_place 0xF0000003) 6 (0x00000001 ∷ 0x00000002 ∷ 0x00000003 ∷ [])
    -- P, ?0 n12 ?1, in POS from place 3
    ∷ whole_run stems (one_pattern 0xC0000000 0x0000000C 0xC0000001 ending01) (at_place 0xF0000003) 4
    (0x00000001 ∷ 0x4000002D ∷ 0x00000002 ∷ 0x40000136 ∷ 0x00000003 ∷ 0x40000136 ∷ [])
    -- PO, ?0 n12 i310, in POS from place 4
    ∷ whole_run stems (one_pattern 0xC0000000 0x0000000C 0x40000136 ending0) (at_place 0xF0000004) 3 (0x00000002 ∷ 0x00000003 ∷ [])
    -- O, ?0 ?1 i310, in OSP from place 4
    ∷ whole_run stems (one_pattern 0xC0000000 0xC0000001 0x40000136 ending01) (at_place 0xF0000004) 3
    (0x00000002 ∷ 0x0000000C ∷ 0x00000003 ∷ 0x0000000C ∷ [])
    -- OS, n2 ?0 n100, in OSP from place 1
    ∷ whole_run stems (one_pattern 0x00000002 0xC0000000 0x00000064 ending0) (at_place 0xF0000001) 2 (0x0000000A ∷ [])
    ∷ [])

-- ---- an empty range lies where its rows would stand, and takes one step
abbrev pub empty_range : ℕ → ℕ → ℕ → List ℕ → ℕ → List Case
empty_range s p o ending w = whole_run stems (one_pattern s p o ending) (at_place w) 1 []

-- a turn that is refused by 10, at a place's word
abbrev pub not_at : ℕ → ℕ → ℕ → List ℕ → ℕ → Case
not_at s p o ending w = not_turned (turn_call stems (one_pattern s p o ending) (at_place w) 5 [] 128) 10

abbrev pub empty_ranges : List Case
empty_ranges =
    flatten
    -- S in SPO: n0, n9
    (empty_range 0x00000000 0xC0000000 0xC0000001 ending01 0xF0000000
    ∷ empty_range 0x00000009 0xC0000000 0xC0000001 ending01 0xF0000006
    -- SP in SPO: n2 n9, n2 n11, n2 n13
    ∷ empty_range 0x00000002 0x00000009 0xC0000000 ending0 0xF0000002
    ∷ empty_range 0x00000002 0x0000000B 0xC0000000 ending0 0xF0000003
    ∷ empty_range 0x00000002 0x0000000D 0xC0000000 ending0 0xF0000004
    -- P in POS: n9, n11, n13
    ∷ empty_range 0xC0000000 0x00000009 0xC0000001 ending01 0xF0000000
    ∷ empty_range 0xC0000000 0x0000000B 0xC0000001 ending01 0xF0000003
    ∷ empty_range 0xC0000000 0x0000000D 0xC0000001 ending01 0xF0000006
    -- PO in POS: n10 n99, n10 n101, n12 i100, n12 t0
    ∷ empty_range 0xC0000000 0x0000000A 0x00000063 ending0 0xF0000000
    ∷ empty_range 0xC0000000 0x0000000A 0x00000065 ending0 0xF0000003
    ∷ empty_range 0xC0000000 0x0000000C 0x40000064 ending0 0xF0000004
    ∷ empty_range 0xC0000000 0x0000000C 0x80000000 ending0 0xF0000006
    -- O in OSP: n99, i0, i100, t0
    ∷ empty_range 0xC0000000 0xC0000001 0x00000063 ending01 0xF0000000
    ∷ empty_range 0xC0000000 0xC0000001 0x40000000 ending01 0xF0000003
    ∷ empty_range 0xC0000000 0xC0000001 0x40000064 ending01 0xF0000004
    ∷ empty_range 0xC0000000 0xC0000001 0x80000000 ending01 0xF0000006
    -- OS in OSP: n100 and n4, i45 and n2, i310 and n1
    ∷ empty_range 0x00000004 0xC0000000 0x00000064 ending0 0xF0000003
    ∷ empty_range 0x00000002 0xC0000000 0x4000002D ending0 0xF0000004
    ∷ empty_range 0x00000001 0xC0000000 0x40000136 ending0 0xF0000004
    -- ?0 n11 ?1 is at place 3 alone
    ∷ (not_at 0xC0000000 0x0000000B 0xC0000001 ending01 0xF0000000
    ∷ not_at 0xC0000000 0x0000000B 0xC0000001 ending01 0xF0000002
    ∷ not_at 0xC0000000 0x0000000B 0xC0000001 ending01 0xF0000004
    ∷ not_at 0xC0000000 0x0000000B 0xC0000001 ending01 0xF0000006
    ∷ [])
    ∷ [])

-- ---- fields that earlier levels fix
-- some steps of a plan from its start at place 0 lead to these words
abbrev pub leads : List ℕ → ℕ → List ℕ → Case
leads plan steps words = turn_case (turn_call stems plan (at_place 0xF0000000) steps [] 128) Spent steps words []

-- ?0 n10 ?1 and then ?0 ?2 ?1: S and O are fixed, so n1 opens in OSP at place 0, n2 at place 1, n3 at place 2
abbrev pub subject_and_object : List ℕ
subject_and_object =
    0x10000001 ∷ 0x20000002 ∷ 0xC0000000 ∷ 0x0000000A ∷ 0xC0000001 ∷ 0xC0000000 ∷ 0xC0000002 ∷ 0xC0000001
    -- ?2 = n11, which keeps nothing
    ∷ 0x70000000 ∷ 0xC0000002 ∷ 0x0000000B ∷ ending0

-- ?0 n12 ?1 and then ?2 ?3 ?1: O is fixed, so i45 opens in OSP at place 3, i310 at place 4
abbrev pub object_alone : List ℕ
object_alone =
    0x10000001 ∷ 0x20000002 ∷ 0xC0000000 ∷ 0x0000000C ∷ 0xC0000001 ∷ 0xC0000002 ∷ 0xC0000003 ∷ 0xC0000001 ∷ 0x70000000 ∷ 0xC0000003
    ∷ 0x0000000B ∷ ending0

abbrev pub fixed_earlier : List Case
fixed_earlier =
    leads subject_and_object 1 (in2026 (0xE0000002 ∷ 0xF0000000 ∷ 0xF0000000 ∷ []))
    ∷ leads subject_and_object 4 (in2026 (0xE0000002 ∷ 0xF0000001 ∷ 0xF0000001 ∷ []))
    ∷ leads subject_and_object 7 (in2026 (0xE0000002 ∷ 0xF0000002 ∷ 0xF0000002 ∷ []))
    ∷ turn_case (turn_call stems object_alone (at_place 0xF0000003) 1 [] 128) Spent 1 (in2026 (0xE0000002 ∷ 0xF0000003 ∷ 0xF0000003 ∷ [])) []
    ∷ turn_case (turn_call stems object_alone (at_place 0xF0000003) 4 [] 128) Spent 4 (in2026 (0xE0000002 ∷ 0xF0000004 ∷ 0xF0000004 ∷ [])) []
    ∷ []

-- ---- a wood in which every order differs: all eight rows of n1 and n2, in 2026. SPO: 111 112 121 122 211 212 221 222
abbrev pub eight : List ℕ → List ℕ → Tables
eight pos osp =
    record {
      rows =
          0x400007EA ∷ 1 ∷ 1 ∷ 1 ∷ 0x400007EA ∷ 1 ∷ 1 ∷ 2 ∷ 0x400007EA ∷ 1 ∷ 2 ∷ 1 ∷ 0x400007EA ∷ 1 ∷ 2 ∷ 2
          ∷ 0x400007EA ∷ 2 ∷ 1 ∷ 1 ∷ 0x400007EA ∷ 2 ∷ 1 ∷ 2 ∷ 0x400007EA ∷ 2 ∷ 2 ∷ 1 ∷ 0x400007EA ∷ 2 ∷ 2 ∷ 2 ∷ [];
      pos = pos;
      osp = osp;
    }

-- by predicate, object, subject; by object, subject, predicate
abbrev pub eight_pos : List ℕ
eight_pos = 0 ∷ 4 ∷ 1 ∷ 5 ∷ 2 ∷ 6 ∷ 3 ∷ 7 ∷ []

abbrev pub eight_osp : List ℕ
eight_osp = 0 ∷ 2 ∷ 4 ∷ 6 ∷ 1 ∷ 3 ∷ 5 ∷ 7 ∷ []

abbrev pub in_eight : ℕ → ℕ → ℕ → List ℕ → ℕ → ℕ → List ℕ → List Case
in_eight s p o ending w steps list = whole_run (eight eight_pos eight_osp) (one_pattern s p o ending) (at_place w) steps list

abbrev pub not_eight : List ℕ → List ℕ → Case
not_eight pos osp = refuses (eight pos osp) (one_pattern 0xC0000000 0xC0000001 0xC0000002 ending012) 4

abbrev pub three_orders : List Case
three_orders =
    flatten
    -- n2 ?0 ?1 in SPO; ?0 n2 ?1 in POS, by object and then subject; ?0 ?1 n2 in OSP, by subject and then predicate
    (in_eight 0x00000002 0xC0000000 0xC0000001 ending01 0xF0000004 5 (1 ∷ 1 ∷ 1 ∷ 2 ∷ 2 ∷ 1 ∷ 2 ∷ 2 ∷ [])
    ∷ in_eight 0xC0000000 0x00000002 0xC0000001 ending01 0xF0000004 5 (1 ∷ 1 ∷ 2 ∷ 1 ∷ 1 ∷ 2 ∷ 2 ∷ 2 ∷ [])
    ∷ in_eight 0xC0000000 0xC0000001 0x00000002 ending01 0xF0000004 5 (1 ∷ 1 ∷ 1 ∷ 2 ∷ 2 ∷ 1 ∷ 2 ∷ 2 ∷ [])
    -- n2 n1 ?0 in SPO, ?0 n2 n1 in POS, n1 ?0 n2 in OSP
    ∷ in_eight 0x00000002 0x00000001 0xC0000000 ending0 0xF0000004 3 (1 ∷ 2 ∷ [])
    ∷ in_eight 0xC0000000 0x00000002 0x00000001 ending0 0xF0000004 3 (1 ∷ 2 ∷ [])
    ∷ in_eight 0x00000001 0xC0000000 0x00000002 ending0 0xF0000004 3 (1 ∷ 2 ∷ [])
    -- each list in the other's place; by predicate, subject, object; by object, predicate, subject
    ∷ (not_eight eight_osp eight_pos
    ∷ not_eight eight_pos eight_pos
    ∷ not_eight eight_osp eight_osp
    ∷ not_eight (0 ∷ 1 ∷ 4 ∷ 5 ∷ 2 ∷ 3 ∷ 6 ∷ 7 ∷ []) eight_osp
    ∷ not_eight eight_pos (0 ∷ 4 ∷ 2 ∷ 6 ∷ 1 ∷ 5 ∷ 3 ∷ 7 ∷ [])
    ∷ [])
    ∷ [])

-- ---- a variable repeated within the pattern: a row that fails takes one step, and nothing is fixed by it
abbrev pub repeated : List Case
repeated =
    flatten
    -- ?0 ?0 ?1, ?0 ?1 ?0, ?1 ?0 ?0 and ?0 ?0 ?0, each in SPO: eight rows and the end
    (in_eight 0xC0000000 0xC0000000 0xC0000001 ending01 0xF0000000 9 (1 ∷ 1 ∷ 1 ∷ 2 ∷ 2 ∷ 1 ∷ 2 ∷ 2 ∷ [])
    ∷ in_eight 0xC0000000 0xC0000001 0xC0000000 ending01 0xF0000000 9 (1 ∷ 1 ∷ 1 ∷ 2 ∷ 2 ∷ 1 ∷ 2 ∷ 2 ∷ [])
    ∷ in_eight 0xC0000001 0xC0000000 0xC0000000 ending01 0xF0000000 9 (1 ∷ 1 ∷ 2 ∷ 1 ∷ 1 ∷ 2 ∷ 2 ∷ 2 ∷ [])
    ∷ in_eight 0xC0000000 0xC0000000 0xC0000000 ending0 0xF0000000 9 (1 ∷ 2 ∷ [])
    ∷ [])
