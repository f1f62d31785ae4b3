-- The limits of the rules (docs/RULES.md, 2), each on both sides, in literal words: what is just allowed is opened or served, one more, or one less
-- where that is the limit, is refused by its number.
use Rattle.std.specs.Prelude.{ℕ, zero, suc, replicate}
use mathlib.Core.List.{List, [], ◌∷◌, ◌++◌, flatten}
use Rattle.std.proofs.Math.Option.{Option, none, some}
use Rattle.sequences.specs.Sequences.{over}
use Rattle.turns.specs.declared.TurnEnding.TheVariants.{Done, Full}
use Rattle.worked_cases.specs.Calls.{testing, tested, Case, surveyed, turn_call, turn_case, not_opened, not_turned}
use Rattle.worked_cases.specs.Literals.{stems, stem1, stem2, stem3, ending0, ending01, all_diameters, at_place}
use Rattle.worked_cases.specs.Literals.{opens_to, refuses, whole_from}

-- ---- plans, by test 5
-- the pattern ?0 n10 n100, `n` times
abbrev pub patterns : ℕ → List ℕ
patterns n = flatten (replicate n (0xC0000000 ∷ 0x0000000A ∷ 0x00000064 ∷ []))

-- one branch of one pattern with a condition; of the patterns ?0 ?1 ?2 and ?3 ?4 ?5 with an ending
abbrev pub under_condition : List ℕ → List ℕ
under_condition condition = 0x10000001 ∷ 0x20000001 ∷ (patterns 1 ++ (condition ++ ending0))

abbrev pub six_bound : List ℕ → List ℕ
six_bound ending =
    0x10000001 ∷ 0x20000002 ∷ 0xC0000000 ∷ 0xC0000001 ∷ 0xC0000002 ∷ 0xC0000003 ∷ 0xC0000004 ∷ 0xC0000005 ∷ (0x30000000 ∷ ending)

-- a plan that is opened at place 0; one that is refused by 5
abbrev pub allowed : List ℕ → Case
allowed plan = opens_to stems plan (at_place 0xF0000000)

abbrev pub too_many : List ℕ → Case
too_many plan = refuses stems plan 5

-- `n` branches of one pattern
abbrev pub equal_branches : ℕ → List ℕ
equal_branches n = flatten (replicate n (0x20000001 ∷ (patterns 1 ++ (0x30000000 ∷ []))))

-- `n` "not"s; a whole tree of "and"s, `n` levels of them over leaves; `n` "or"s, each the second part of the one before
abbrev pub nots : ℕ → List ℕ
nots n = replicate n 0x60000000

abbrev pub and_tree : ℕ → List ℕ → List ℕ
and_tree zero x = x
and_tree (suc n) x = 0x40000000 ∷ (and_tree n x ++ and_tree n x)

abbrev pub or_chain : ℕ → List ℕ
or_chain n = flatten (replicate n (0x50000000 ∷ 0x30000000 ∷ [])) ++ (0x30000000 ∷ [])

-- the leaf ?0 = ?0
abbrev pub leaf : List ℕ
leaf = 0x70000000 ∷ 0xC0000000 ∷ 0xC0000000 ∷ []

-- 1 + 88 + 88 + 56 + (20 + n) + 2 words
abbrev pub long_plan : ℕ → List ℕ
long_plan n =
    0x10000004
    ∷ flatten
    ((0x20000008 ∷ (patterns 8 ++ and_tree 4 leaf))
    ∷ (0x20000008 ∷ (patterns 8 ++ and_tree 4 leaf))
    ∷ (0x20000008 ∷ (patterns 8 ++ and_tree 3 leaf))
    ∷ (0x20000006 ∷ (patterns 6 ++ (nots n ++ (0x30000000 ∷ []))))
    ∷ ending0
    ∷ [])

abbrev pub of_form : List Case
of_form =
    -- branches, 1 to 4
    too_many (0x10000000 ∷ ending0)
    ∷ allowed (0x10000001 ∷ (equal_branches 1 ++ ending0))
    ∷ allowed (0x10000004 ∷ (equal_branches 4 ++ ending0))
    ∷ too_many (0x10000005 ∷ (equal_branches 5 ++ ending0))
    -- patterns, 1 to 8
    ∷ too_many (0x10000001 ∷ 0x20000000 ∷ (0x30000000 ∷ ending0))
    ∷ allowed (0x10000001 ∷ 0x20000001 ∷ (patterns 1 ++ (0x30000000 ∷ ending0)))
    ∷ allowed (0x10000001 ∷ 0x20000008 ∷ (patterns 8 ++ (0x30000000 ∷ ending0)))
    ∷ too_many (0x10000001 ∷ 0x20000009 ∷ (patterns 9 ++ (0x30000000 ∷ ending0)))
    -- low bits 0 in true, and, or, not
    ∷ allowed (under_condition (0x30000000 ∷ []))
    ∷ too_many (under_condition (0x30000001 ∷ []))
    ∷ allowed (under_condition (0x40000000 ∷ 0x30000000 ∷ 0x30000000 ∷ []))
    ∷ too_many (under_condition (0x40000001 ∷ 0x30000000 ∷ 0x30000000 ∷ []))
    ∷ allowed (under_condition (0x50000000 ∷ 0x30000000 ∷ 0x30000000 ∷ []))
    ∷ too_many (under_condition (0x50000001 ∷ 0x30000000 ∷ 0x30000000 ∷ []))
    ∷ allowed (under_condition (0x60000000 ∷ 0x30000000 ∷ []))
    ∷ too_many (under_condition (0x60000001 ∷ 0x30000000 ∷ []))
    ∷ too_many (under_condition (0x3FFFFFFF ∷ []))
    ∷ too_many (under_condition (0x48000000 ∷ 0x30000000 ∷ 0x30000000 ∷ []))
    ∷ too_many (under_condition (0x58000000 ∷ 0x30000000 ∷ 0x30000000 ∷ []))
    ∷ too_many (under_condition (0x68000000 ∷ 0x30000000 ∷ []))
    -- comparisons, 0 to 5, and two terms
    ∷ allowed (under_condition (0x70000000 ∷ 0xC0000000 ∷ 0x00000001 ∷ []))
    ∷ allowed (under_condition (0x70000005 ∷ 0xC0000000 ∷ 0x00000001 ∷ []))
    ∷ too_many (under_condition (0x70000006 ∷ 0xC0000000 ∷ 0x00000001 ∷ []))
    -- nodes, at most 31; the terms of a comparison are none
    ∷ allowed (under_condition (and_tree 4 (0x30000000 ∷ [])))
    ∷ allowed (under_condition (and_tree 4 leaf))
    ∷ too_many (under_condition (nots 1 ++ and_tree 4 (0x30000000 ∷ [])))
    ∷ too_many (under_condition (nots 1 ++ and_tree 4 leaf))
    -- 8 deep at most, a lone node being 1 deep
    ∷ allowed (under_condition (nots 7 ++ (0x30000000 ∷ [])))
    ∷ too_many (under_condition (nots 8 ++ (0x30000000 ∷ [])))
    ∷ allowed (under_condition (nots 7 ++ leaf))
    ∷ too_many (under_condition (nots 8 ++ leaf))
    ∷ allowed (under_condition (or_chain 7))
    ∷ too_many (under_condition (or_chain 8))
    -- 256 words at most, a year's word among them
    ∷ allowed (long_plan 1)
    ∷ too_many (long_plan 2)
    ∷ allowed (0x000007EA ∷ long_plan 0)
    ∷ too_many (0x000007EA ∷ long_plan 1)
    ∷ []

-- ?0 to ?15, and all bound: five patterns of three variables, and ?15 n10 n100
abbrev pub sixteen : List ℕ
sixteen =
    0xC0000000 ∷ 0xC0000001 ∷ 0xC0000002 ∷ 0xC0000003 ∷ 0xC0000004 ∷ 0xC0000005 ∷ 0xC0000006 ∷ 0xC0000007 ∷ 0xC0000008 ∷ 0xC0000009
    ∷ 0xC000000A ∷ 0xC000000B ∷ 0xC000000C ∷ 0xC000000D ∷ 0xC000000E ∷ 0xC000000F ∷ []

abbrev pub sixteen_bound : List ℕ → List ℕ
sixteen_bound ending = 0x10000001 ∷ 0x20000006 ∷ (sixteen ++ (0x0000000A ∷ 0x00000064 ∷ (0x30000000 ∷ ending)))

abbrev pub of_endings : List Case
of_endings =
    -- variables of rows, 1 to 16
    too_many (six_bound (0x80000000 ∷ []))
    ∷ allowed (six_bound (0x80000001 ∷ 0xC0000000 ∷ []))
    ∷ allowed (sixteen_bound (0x80000010 ∷ sixteen))
    ∷ too_many (sixteen_bound (0x80000011 ∷ (sixteen ++ (0xC0000000 ∷ []))))
    -- the same under top
    ∷ too_many (six_bound (0x90000001 ∷ 0x80000000 ∷ 0xA0000000 ∷ []))
    ∷ allowed (sixteen_bound (0x90000001 ∷ 0x80000010 ∷ (sixteen ++ (0xA000000F ∷ []))))
    ∷ too_many (sixteen_bound (0x90000001 ∷ 0x80000011 ∷ (sixteen ++ (0xC0000000 ∷ 0xA000000F ∷ []))))
    -- k, 0 to 64
    ∷ allowed (six_bound (0x90000000 ∷ (ending01 ++ (0xA0000000 ∷ []))))
    ∷ allowed (six_bound (0x90000040 ∷ (ending01 ++ (0xA0000000 ∷ []))))
    ∷ too_many (six_bound (0x90000041 ∷ (ending01 ++ (0xA0000000 ∷ []))))
    -- keys, 1 to 4
    ∷ too_many (six_bound (0x90000001 ∷ ending01))
    ∷ allowed (six_bound (0x90000001 ∷ (ending01 ++ (0xA0000000 ∷ []))))
    ∷ allowed (six_bound (0x90000001 ∷ (ending01 ++ (0xA0000000 ∷ 0xB0000001 ∷ 0xA0000001 ∷ 0xB0000000 ∷ []))))
    ∷ too_many (six_bound (0x90000001 ∷ (ending01 ++ (0xA0000000 ∷ 0xB0000001 ∷ 0xA0000001 ∷ 0xB0000000 ∷ 0xA0000000 ∷ []))))
    -- group variables, 0 to 4, then one measured variable
    ∷ allowed (six_bound (0xC0000000 ∷ 0xC0000000 ∷ []))
    ∷ allowed (six_bound (0xC0000004 ∷ 0xC0000000 ∷ 0xC0000001 ∷ 0xC0000002 ∷ 0xC0000003 ∷ 0xC0000004 ∷ []))
    ∷ too_many (six_bound (0xC0000005 ∷ 0xC0000000 ∷ 0xC0000001 ∷ 0xC0000002 ∷ 0xC0000003 ∷ 0xC0000004 ∷ 0xC0000005 ∷ []))
    ∷ too_many (six_bound (0xC0000000 ∷ []))
    ∷ too_many (six_bound (0xC0000000 ∷ 0xC0000000 ∷ 0xC0000001 ∷ []))
    -- variables, ?0 to ?15, by 6: in a pattern, a condition, rows, a key, a group
    ∷ allowed
    (0x10000001 ∷ 0x20000001 ∷ 0xC000000F ∷ 0x0000000A ∷ 0x00000064 ∷ 0x70000000 ∷ 0xC000000F ∷ 0xC000000F
    ∷ 0x80000001 ∷ 0xC000000F ∷ [])
    ∷ refuses stems (under_condition (0x70000000 ∷ 0xC0000010 ∷ 0x00000001 ∷ [])) 6
    ∷ refuses stems (0x10000001 ∷ 0x20000001 ∷ 0xC0000010 ∷ 0x0000000A ∷ 0xC0000000 ∷ (0x30000000 ∷ ending0)) 6
    ∷ refuses stems (sixteen_bound (0x80000001 ∷ 0xC0000010 ∷ [])) 6
    ∷ refuses stems (sixteen_bound (0x90000001 ∷ 0x80000010 ∷ (sixteen ++ (0xA0000010 ∷ [])))) 6
    ∷ refuses stems (sixteen_bound (0xC0000001 ∷ 0xC0000010 ∷ 0xC0000000 ∷ [])) 6
    ∷ refuses stems (sixteen_bound (0xC0000000 ∷ 0xC0000010 ∷ [])) 6
    ∷ []

-- ---- buffers, by test 7, and the quantum, by test 8
-- ?0 n12 ?1 with an ending: the number of the test that refuses a turn over an output of `n` words, none where it is accepted
abbrev pub output : ℕ → List ℕ → Option ℕ → Case
output n ending x = (testing (turn_call stems (all_diameters ending) (at_place 0xF0000003) 1 [] n), tested x)

-- the best k by ?1 falling, k's word being w; and what a whole turn lists
abbrev pub best_by1 : ℕ → List ℕ
best_by1 w = w ∷ (ending01 ++ (0xB0000001 ∷ []))

abbrev pub lists_best : ℕ → List ℕ → Case
lists_best w list = whole_from stems (all_diameters (best_by1 w)) (at_place 0xF0000003) 4 list

-- the number of the test that refuses a quantum
abbrev pub quantum_of : ℕ → Option ℕ → Case
quantum_of n x = (testing (turn_call stems (all_diameters ending01) (at_place 0xF0000003) n [] 2), tested x)

abbrev pub of_buffers : List Case
of_buffers =
    -- a state buffer of 11 words
    opens_to stems (all_diameters ending01) (at_place 0xF0000003)
    ∷ not_opened stems (all_diameters ending01) (replicate 10 7) 7
    ∷ not_turned
    (record {
      survey = surveyed stems;
      plan = all_diameters ending01;
      state = over (at_place 0xF0000003) (replicate 10 7);
      given = 4;
      quantum = 1;
      threshold = [];
      output = replicate 128 9;
    })
    7
    -- one row: of one variable, of two
    ∷ output 0 (0x80000001 ∷ 0xC0000001 ∷ []) (some 7)
    ∷ output 1 (0x80000001 ∷ 0xC0000001 ∷ []) none
    ∷ output 1 (0x80000002 ∷ 0xC0000000 ∷ 0xC0000001 ∷ []) (some 7)
    ∷ output 2 (0x80000002 ∷ 0xC0000000 ∷ 0xC0000001 ∷ []) none
    -- k rows of two variables: k = 1, k = 2, k = 64, and k = 0, which means 10
    ∷ output 1 (best_by1 0x90000001) (some 7)
    ∷ output 2 (best_by1 0x90000001) none
    ∷ output 3 (best_by1 0x90000002) (some 7)
    ∷ output 4 (best_by1 0x90000002) none
    ∷ output 127 (best_by1 0x90000040) (some 7)
    ∷ output 128 (best_by1 0x90000040) none
    ∷ output 18 (best_by1 0x90000000) (some 7)
    ∷ output 19 (best_by1 0x90000000) (some 7)
    ∷ output 20 (best_by1 0x90000000) none
    ∷ lists_best 0x90000001 stem2
    ∷ lists_best 0x90000002 (stem2 ++ stem3)
    ∷ lists_best 0x90000040 (stem2 ++ (stem3 ++ stem1))
    ∷ lists_best 0x90000000 (stem2 ++ (stem3 ++ stem1))
    -- one group: no key and eight words; one key and eight words
    ∷ output 7 (0xC0000000 ∷ 0xC0000001 ∷ []) (some 7)
    ∷ output 8 (0xC0000000 ∷ 0xC0000001 ∷ []) none
    ∷ output 8 (0xC0000001 ∷ 0xC0000000 ∷ 0xC0000001 ∷ []) (some 7)
    ∷ output 9 (0xC0000001 ∷ 0xC0000000 ∷ 0xC0000001 ∷ []) none
    -- full where a row, or a new group, has no space: one row of two variables; one group for each ?0; one group of all has space for all
    ∷ turn_case (turn_call stems (all_diameters ending01) (at_place 0xF0000003) 100 [] 3) Full 1 (at_place 0xF0000004) stem1
    ∷ turn_case (turn_call stems (all_diameters (0xC0000001 ∷ 0xC0000000 ∷ 0xC0000001 ∷ [])) (at_place 0xF0000003) 100 [] 17) Full 1
    (at_place 0xF0000004) (0x00000001 ∷ 1 ∷ 0 ∷ 1 ∷ 0 ∷ 45 ∷ 0 ∷ 0x4000002D ∷ 0x4000002D ∷ [])
    ∷ turn_case (turn_call stems (all_diameters (0xC0000000 ∷ 0xC0000001 ∷ [])) (at_place 0xF0000003) 100 [] 8) Done 4 []
    (3 ∷ 0 ∷ 3 ∷ 0 ∷ 665 ∷ 0 ∷ 0x4000002D ∷ 0x40000136 ∷ [])
    -- a quantum of 1 to 1,000,000 steps
    ∷ quantum_of 0 (some 8)
    ∷ quantum_of 1 none
    ∷ quantum_of 1000000 none
    ∷ quantum_of 1000001 (some 8)
    ∷ []
