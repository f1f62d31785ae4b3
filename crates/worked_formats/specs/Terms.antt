-- Any term may stand in any place of a pattern: a number or a text as subject or as predicate, and no variable at all. Such plans are accepted and run;
-- what no row has is found nowhere. Literal words over the three-stem wood.
use Rattle.std.specs.Prelude.{ℕ}
use mathlib.Core.List.{List, [], ◌∷◌, ◌++◌, flatten}
use Rattle.worked_cases.specs.Calls.{Case}
use Rattle.worked_cases.specs.Literals.{stems, stem1, stem2, stem3, ending0, ending01, at_place, whole_run}
use Rattle.worked_formats.specs.Orders.{one_pattern}

-- a branch of one pattern with a condition, before the branch ?0 n12 ?1, with rows ?0 ?1
abbrev pub before_diameters : ℕ → ℕ → ℕ → List ℕ → List ℕ
before_diameters s p o condition =
    0x10000002 ∷ 0x20000001 ∷ s ∷ p ∷ o
    ∷ (condition ++ (0x20000001 ∷ 0xC0000000 ∷ 0x0000000C ∷ 0xC0000001 ∷ 0x30000000 ∷ ending01))

-- a row in which neither variable is bound
abbrev pub nothing_named : List ℕ
nothing_named = 0xC0000000 ∷ 0xC0000000 ∷ []

abbrev pub any_terms : List Case
any_terms =
    flatten
    -- a number or a text as subject, alone fixed, with a predicate, with an object: i45 ?0 ?1, t1 ?0 ?1, i45 n12 ?0, i45 ?0 n100
    (whole_run stems (one_pattern 0x4000002D 0xC0000000 0xC0000001 ending01) (at_place 0xF0000006) 1 []
    ∷ whole_run stems (one_pattern 0x80000001 0xC0000000 0xC0000001 ending01) (at_place 0xF0000006) 1 []
    ∷ whole_run stems (one_pattern 0x4000002D 0x0000000C 0xC0000000 ending0) (at_place 0xF0000006) 1 []
    ∷ whole_run stems (one_pattern 0x4000002D 0xC0000000 0x00000064 ending0) (at_place 0xF0000003) 1 []
    -- as predicate: ?0 i12 ?1, ?0 t12 ?1, ?0 i12 n100, n1 i12 ?0
    ∷ whole_run stems (one_pattern 0xC0000000 0x4000000C 0xC0000001 ending01) (at_place 0xF0000006) 1 []
    ∷ whole_run stems (one_pattern 0xC0000000 0x8000000C 0xC0000001 ending01) (at_place 0xF0000006) 1 []
    ∷ whole_run stems (one_pattern 0xC0000000 0x4000000C 0x00000064 ending0) (at_place 0xF0000006) 1 []
    ∷ whole_run stems (one_pattern 0x00000001 0x4000000C 0xC0000000 ending0) (at_place 0xF0000002) 1 []
    -- as both: i45 i12 ?0
    ∷ whole_run stems (one_pattern 0x4000002D 0x4000000C 0xC0000000 ending0) (at_place 0xF0000006) 1 []
    -- a branch without a variable delivers a row of unbound values where its row is there: n2 n12 i310; where it is not, none: n2 n12 i311, i2 i12 t3
    ∷ whole_run stems (before_diameters 0x00000002 0x0000000C 0x40000136 (0x30000000 ∷ [])) (at_place 0xF0000003) 6
    (nothing_named ++ (stem1 ++ (stem2 ++ stem3)))
    ∷ whole_run stems (before_diameters 0x00000002 0x0000000C 0x40000137 (0x30000000 ∷ [])) (at_place 0xF0000004) 5 (stem1 ++ (stem2 ++ stem3))
    ∷ whole_run stems (before_diameters 0x40000002 0x4000000C 0x80000003 (0x30000000 ∷ [])) (at_place 0xF0000006) 5 (stem1 ++ (stem2 ++ stem3))
    -- with a condition on constants: i1 < i2, i2 < i1
    ∷ whole_run stems (before_diameters 0x00000002 0x0000000C 0x40000136 (0x70000002 ∷ 0x40000001 ∷ 0x40000002 ∷ [])) (at_place 0xF0000003) 6
    (nothing_named ++ (stem1 ++ (stem2 ++ stem3)))
    ∷ whole_run stems (before_diameters 0x00000002 0x0000000C 0x40000136 (0x70000002 ∷ 0x40000002 ∷ 0x40000001 ∷ [])) (at_place 0xF0000003) 6
    (stem1 ++ (stem2 ++ stem3))
    -- a pattern without a variable before one with: n1 n10 n100, ?0 n12 ?1
    ∷ whole_run stems
    (0x10000001 ∷ 0x20000002 ∷ 0x00000001 ∷ 0x0000000A ∷ 0x00000064 ∷ 0xC0000000 ∷ 0x0000000C ∷ 0xC0000001 ∷ 0x30000000 ∷ ending01)
    (at_place 0xF0000000) 6 (stem1 ++ (stem2 ++ stem3))
    -- a variable that a diameter is bound to, as subject and as predicate: ?0 n12 ?1, ?1 ?2 ?3 and ?0 n12 ?1, ?2 ?1 ?3
    ∷ whole_run stems
    (0x10000001 ∷ 0x20000002 ∷ 0xC0000000 ∷ 0x0000000C ∷ 0xC0000001 ∷ 0xC0000001 ∷ 0xC0000002 ∷ 0xC0000003 ∷ 0x30000000 ∷ ending01)
    (at_place 0xF0000003) 7 []
    ∷ whole_run stems
    (0x10000001 ∷ 0x20000002 ∷ 0xC0000000 ∷ 0x0000000C ∷ 0xC0000001 ∷ 0xC0000002 ∷ 0xC0000001 ∷ 0xC0000003 ∷ 0x30000000 ∷ ending01)
    (at_place 0xF0000003) 7 []
    ∷ [])
