-- The table of kinds (docs/RULES.md, 1), a plan or more for each kind of word: literal words, and what they deliver over the three-stem wood.
-- Kinds 13, 14 and 15 are in States, and there is more of years.
use Rattle.std.specs.Prelude.{ℕ}
use mathlib.Core.List.{List, [], ◌∷◌, ◌++◌, map, flatten}
use Rattle.worked_cases.specs.Calls.{Case}
use Rattle.worked_cases.specs.Literals.{stems, stem1, stem2, stem3, ending01, diameters, all_diameters, of_year, at_place, refuses, whole_run}

-- a plan of ?0 n12 ?1, which starts at place 3 and takes 4 steps whatever its condition and its ending
abbrev pub gives : List ℕ → List ℕ → List ℕ → List Case
gives condition ending list = whole_run stems (diameters condition ending) (at_place 0xF0000003) 4 list

abbrev pub gives_all : List ℕ → List ℕ → List Case
gives_all ending list = gives (0x30000000 ∷ []) ending list

abbrev pub kinds : List Case
kinds =
    flatten
    -- 0: a year before the head, 2026; every year, which is that one; 2025, which has no rows
    (whole_run stems (0x000007EA ∷ all_diameters ending01) (at_place 0xF0000003) 4 (stem1 ++ (stem2 ++ stem3))
    ∷ whole_run stems (0x00000000 ∷ all_diameters ending01) (at_place 0xF0000003) 4 (stem1 ++ (stem2 ++ stem3))
    ∷ whole_run stems (0x000007E9 ∷ all_diameters ending01) (of_year 0x000007E9 (0xE0000001 ∷ 0xF0000000 ∷ [])) 1 []
    -- 1: head, one branch; two branches, ?0 n12 ?1 and ?0 n10 ?2, in plan order: rows of the second have no ?1
    ∷ gives_all ending01 (stem1 ++ (stem2 ++ stem3))
    ∷ whole_run stems
    (0x10000002 ∷ 0x20000001 ∷ 0xC0000000 ∷ 0x0000000C ∷ 0xC0000001 ∷ 0x30000000
    ∷ 0x20000001 ∷ 0xC0000000 ∷ 0x0000000A ∷ 0xC0000002 ∷ 0x30000000 ∷ ending01)
    (at_place 0xF0000003) 8
    (stem1 ++ (stem2 ++ (stem3 ++ (0x00000001 ∷ 0xC0000000 ∷ 0x00000002 ∷ 0xC0000000 ∷ 0x00000003 ∷ 0xC0000000 ∷ []))))
    -- 2: branch, two patterns of three terms each, ?0 n10 n100 and ?0 n12 ?1; then one condition
    ∷ whole_run stems
    (0x10000001 ∷ 0x20000002 ∷ 0xC0000000 ∷ 0x0000000A ∷ 0x00000064 ∷ 0xC0000000 ∷ 0x0000000C ∷ 0xC0000001 ∷ 0x30000000 ∷ ending01)
    (at_place 0xF0000000) 10 (stem1 ++ (stem2 ++ stem3))
    -- 3: "true"
    ∷ gives (0x30000000 ∷ []) ending01 (stem1 ++ (stem2 ++ stem3))
    -- 4, 5: and, or, of two conditions, "true" and ?1 ≥ i70; 6: not, of one
    ∷ gives (0x40000000 ∷ 0x30000000 ∷ 0x70000005 ∷ 0xC0000001 ∷ 0x40000046 ∷ []) ending01 (stem2 ++ stem3)
    ∷ gives (0x50000000 ∷ 0x30000000 ∷ 0x70000005 ∷ 0xC0000001 ∷ 0x40000046 ∷ []) ending01 (stem1 ++ (stem2 ++ stem3))
    ∷ gives (0x60000000 ∷ 0x70000005 ∷ 0xC0000001 ∷ 0x40000046 ∷ []) ending01 stem1
    -- 7: comparison 5, ?1 ≥ i70; the others are in Comparing
    ∷ gives (0x70000005 ∷ 0xC0000001 ∷ 0x40000046 ∷ []) ending01 (stem2 ++ stem3)
    -- 8: rows, ?1 alone; ?1 ?0
    ∷ gives_all (0x80000001 ∷ 0xC0000001 ∷ []) (0x4000002D ∷ 0x40000136 ∷ 0x40000136 ∷ [])
    ∷ gives_all (0x80000002 ∷ 0xC0000001 ∷ 0xC0000000 ∷ [])
    (0x4000002D ∷ 0x00000001 ∷ 0x40000136 ∷ 0x00000002 ∷ 0x40000136 ∷ 0x00000003 ∷ [])
    -- 9: top 2, a kind 8 part, keys. 10: ?1 rising; 11: ?1 falling; ?1 falling and ?0 falling; ?1 falling and ?0 rising
    ∷ gives_all (0x90000002 ∷ (ending01 ++ (0xA0000001 ∷ []))) (stem1 ++ stem2)
    ∷ gives_all (0x90000002 ∷ (ending01 ++ (0xB0000001 ∷ []))) (stem2 ++ stem3)
    ∷ gives_all (0x90000002 ∷ (ending01 ++ (0xB0000001 ∷ 0xB0000000 ∷ []))) (stem3 ++ stem2)
    ∷ gives_all (0x90000002 ∷ (ending01 ++ (0xB0000001 ∷ 0xA0000000 ∷ []))) (stem2 ++ stem3)
    -- 12: group, of no variable, measuring ?1
    ∷ gives_all (0xC0000000 ∷ 0xC0000001 ∷ []) (3 ∷ 0 ∷ 3 ∷ 0 ∷ 665 ∷ 0 ∷ 0x4000002D ∷ 0x40000136 ∷ [])
    -- of ?0, measuring ?1
    ∷ gives_all (0xC0000001 ∷ 0xC0000000 ∷ 0xC0000001 ∷ [])
    (0x00000001 ∷ 1 ∷ 0 ∷ 1 ∷ 0 ∷ 45 ∷ 0 ∷ 0x4000002D ∷ 0x4000002D
    ∷ 0x00000002 ∷ 1 ∷ 0 ∷ 1 ∷ 0 ∷ 310 ∷ 0 ∷ 0x40000136 ∷ 0x40000136
    ∷ 0x00000003 ∷ 1 ∷ 0 ∷ 1 ∷ 0 ∷ 310 ∷ 0 ∷ 0x40000136 ∷ 0x40000136 ∷ [])
    -- of ?1, measuring ?0, of which no value is a number
    ∷ gives_all (0xC0000001 ∷ 0xC0000001 ∷ 0xC0000000 ∷ [])
    (0x4000002D ∷ 1 ∷ 0 ∷ 0 ∷ 0 ∷ 0 ∷ 0 ∷ 0xC0000000 ∷ 0xC0000000
    ∷ 0x40000136 ∷ 2 ∷ 0 ∷ 0 ∷ 0 ∷ 0 ∷ 0 ∷ 0xC0000000 ∷ 0xC0000000 ∷ [])
    -- of ?1 and ?2 in ?0 ?1 ?2, measuring ?2: records ascend by both keys
    ∷ whole_run stems
    (0x10000001 ∷ 0x20000001 ∷ 0xC0000000 ∷ 0xC0000001 ∷ 0xC0000002 ∷ 0x30000000 ∷ 0xC0000002 ∷ 0xC0000001 ∷ 0xC0000002 ∷ 0xC0000002 ∷ [])
    (at_place 0xF0000000) 7
    (0x0000000A ∷ 0x00000064 ∷ 3 ∷ 0 ∷ 0 ∷ 0 ∷ 0 ∷ 0 ∷ 0xC0000000 ∷ 0xC0000000
    ∷ 0x0000000C ∷ 0x4000002D ∷ 1 ∷ 0 ∷ 1 ∷ 0 ∷ 45 ∷ 0 ∷ 0x4000002D ∷ 0x4000002D
    ∷ 0x0000000C ∷ 0x40000136 ∷ 2 ∷ 0 ∷ 2 ∷ 0 ∷ 620 ∷ 0 ∷ 0x40000136 ∷ 0x40000136 ∷ [])
    -- 13: registers of ?1, and of ?0
    ∷ gives_all (0xD0000000 ∷ 0xC0000001 ∷ []) (2 ∷ 0 ∷ 1 ∷ 0 ∷ 0 ∷ 0 ∷ 0 ∷ 0 ∷ 0 ∷ 0 ∷ 0 ∷ 0 ∷ 0 ∷ 0 ∷ 0 ∷ 0 ∷ [])
    ∷ gives_all (0xD0000000 ∷ 0xC0000000 ∷ []) (0 ∷ 0 ∷ 0 ∷ 0 ∷ 0 ∷ 0 ∷ 0 ∷ 0 ∷ 1 ∷ 0 ∷ 1 ∷ 0 ∷ 0 ∷ 0 ∷ 1 ∷ 0 ∷ [])
    ∷ [])

-- ---- no word of another kind may stand in a part's place: it is refused by 5
abbrev pub others : (ℕ → List ℕ) → List ℕ → List Case
others plan ws = map (λ w. refuses stems (plan w) 5) ws

abbrev pub other_kinds : List Case
other_kinds =
    flatten
    -- before the head: 0 alone, and once
    (others (λ w. w ∷ all_diameters ending01)
    (0x10000001 ∷ 0x20000001 ∷ 0x30000000 ∷ 0x40000000 ∷ 0x50000000 ∷ 0x60000000 ∷ 0x70000000 ∷ 0x80000001 ∷ 0x90000001 ∷ 0xA0000001
    ∷ 0xB0000001 ∷ 0xC0000000 ∷ 0xD0000007 ∷ 0xE0000001 ∷ 0xF0000000 ∷ [])
    ∷ others (λ w. w ∷ 0x000007EA ∷ all_diameters ending01) (0x00000000 ∷ 0x000007EA ∷ 0x10000001 ∷ [])
    -- the head: 1 alone
    ∷ others (λ w. w ∷ 0x20000001 ∷ 0xC0000000 ∷ 0x0000000C ∷ 0xC0000001 ∷ 0x30000000 ∷ ending01)
    (0x00000001 ∷ 0x20000001 ∷ 0x30000001 ∷ 0x40000001 ∷ 0x50000001 ∷ 0x60000001 ∷ 0x70000001 ∷ 0x80000001 ∷ 0x90000001 ∷ 0xA0000001
    ∷ 0xB0000001 ∷ 0xC0000001 ∷ 0xD0000001 ∷ 0xE0000001 ∷ 0xF0000001 ∷ [])
    -- a branch: 2 alone
    ∷ others (λ w. 0x10000001 ∷ w ∷ 0xC0000000 ∷ 0x0000000C ∷ 0xC0000001 ∷ 0x30000000 ∷ ending01)
    (0x00000001 ∷ 0x10000001 ∷ 0x30000001 ∷ 0x40000001 ∷ 0x50000001 ∷ 0x60000001 ∷ 0x70000001 ∷ 0x80000001 ∷ 0x90000001 ∷ 0xA0000001
    ∷ 0xB0000001 ∷ 0xC0000001 ∷ 0xD0000001 ∷ 0xE0000001 ∷ 0xF0000001 ∷ [])
    -- a condition of one word: 3 alone
    ∷ others (λ w. diameters (w ∷ []) ending01)
    (0x00000000 ∷ 0x10000000 ∷ 0x20000000 ∷ 0x40000000 ∷ 0x50000000 ∷ 0x60000000 ∷ 0x70000000 ∷ 0x80000000 ∷ 0x90000000 ∷ 0xA0000000
    ∷ 0xB0000000 ∷ 0xC0000000 ∷ 0xD0000000 ∷ 0xE0000000 ∷ 0xF0000000 ∷ [])
    -- an ending of two variables: 8 alone
    ∷ others (λ w. all_diameters (w ∷ 0xC0000000 ∷ 0xC0000001 ∷ []))
    (0x00000002 ∷ 0x10000002 ∷ 0x20000002 ∷ 0x30000002 ∷ 0x40000002 ∷ 0x50000002 ∷ 0x60000002 ∷ 0x70000002 ∷ 0x90000002 ∷ 0xA0000002
    ∷ 0xB0000002 ∷ 0xC0000002 ∷ 0xD0000002 ∷ 0xE0000002 ∷ 0xF0000002 ∷ [])
    -- the part after a top's first word: 8 alone
    ∷ others (λ w. all_diameters (0x90000001 ∷ w ∷ 0xC0000000 ∷ 0xC0000001 ∷ 0xA0000001 ∷ []))
    (0x00000002 ∷ 0x10000002 ∷ 0x20000002 ∷ 0x30000002 ∷ 0x40000002 ∷ 0x50000002 ∷ 0x60000002 ∷ 0x70000002 ∷ 0x90000002 ∷ 0xA0000002
    ∷ 0xB0000002 ∷ 0xC0000002 ∷ 0xD0000002 ∷ 0xE0000002 ∷ 0xF0000002 ∷ [])
    -- a key: 10 and 11
    ∷ others (λ w. all_diameters (0x90000001 ∷ (ending01 ++ (w ∷ []))))
    (0x00000001 ∷ 0x10000001 ∷ 0x20000001 ∷ 0x30000001 ∷ 0x40000001 ∷ 0x50000001 ∷ 0x60000001 ∷ 0x70000001 ∷ 0x80000001 ∷ 0x90000001
    ∷ 0xC0000001 ∷ 0xD0000001 ∷ 0xE0000001 ∷ 0xF0000001 ∷ [])
    -- a variable of rows, of a group, a measured one: terms of kind 3 alone
    ∷ others (λ w. all_diameters (0x80000001 ∷ w ∷ [])) (0x00000000 ∷ 0x40000000 ∷ 0x80000000 ∷ [])
    ∷ others (λ w. all_diameters (0xC0000001 ∷ w ∷ 0xC0000001 ∷ [])) (0x00000000 ∷ 0x40000000 ∷ 0x80000000 ∷ [])
    ∷ others (λ w. all_diameters (0xC0000000 ∷ w ∷ [])) (0x00000000 ∷ 0x40000000 ∷ 0x80000000 ∷ [])
    ∷ [])
