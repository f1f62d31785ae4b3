-- Conditions over the three-stem wood, in literal words: the six comparisons, with the constant on the right and on the left; the
-- kinds of terms; and, or, not. A line is a rule (docs/RULES.md, 5), or of a table of SPARQL 1.1, section 17.2.
use Rattle.std.specs.Prelude.{ℕ}
use mathlib.Core.List.{List, [], ◌∷◌, ◌++◌, flatten}
use Rattle.conditions.specs.declared.Truth.{Truth}
use Rattle.conditions.specs.declared.Truth.TheVariants.{True, False, Error}
use Rattle.worked_cases.specs.Calls.{Case}
use Rattle.worked_cases.specs.Literals.{stems, stem1, stem2, stem3, ending01, at_place, whole_from}

-- ---- plan A with another condition: ?0 n10 n100, ?0 n12 ?1, the condition, rows ?0 ?1. It takes 10 steps whatever the condition keeps
abbrev pub plan_a_with : List ℕ → List ℕ
plan_a_with condition =
    0x10000001 ∷ 0x20000002 ∷ 0xC0000000 ∷ 0x0000000A ∷ 0x00000064 ∷ 0xC0000000 ∷ 0x0000000C ∷ 0xC0000001
    ∷ (condition ++ ending01)

abbrev pub keeps_rows : List ℕ → List ℕ → Case
keeps_rows condition rows = whole_from stems (plan_a_with condition) (at_place 0xF0000000) 10 rows

-- the rows that may be kept: none; n1 i45; n2 i310 and n3 i310; all three
abbrev pub none_kept : List ℕ
none_kept = []

abbrev pub thin : List ℕ
thin = stem1

abbrev pub thick : List ℕ
thick = stem2 ++ stem3

abbrev pub every : List ℕ
every = stem1 ++ (stem2 ++ stem3)

-- ---- the six comparisons: what ?1 o i45, ?1 o i310, i45 o ?1 and i310 o ?1 keep. No two lines are alike
abbrev pub compares : ℕ → List ℕ → List ℕ → List ℕ → List ℕ → List Case
compares o a b c d =
    keeps_rows (o ∷ 0xC0000001 ∷ 0x4000002D ∷ []) a
    ∷ keeps_rows (o ∷ 0xC0000001 ∷ 0x40000136 ∷ []) b
    ∷ keeps_rows (o ∷ 0x4000002D ∷ 0xC0000001 ∷ []) c
    ∷ keeps_rows (o ∷ 0x40000136 ∷ 0xC0000001 ∷ []) d
    ∷ []

abbrev pub six_comparisons : List Case
six_comparisons =
    flatten
    (compares 0x70000000 thin thick thin thick  -- =
    ∷ compares 0x70000001 thick thin thick thin  -- ≠
    ∷ compares 0x70000002 none_kept thin thick none_kept  -- <
    ∷ compares 0x70000003 thin every every thick  -- ≤
    ∷ compares 0x70000004 thick none_kept none_kept thin  -- >
    ∷ compares 0x70000005 every thick thin every  -- ≥
    ∷ [])

-- ---- true, false, error: a condition that is true keeps every row, and under "not" none; one that is false the other way round;
-- an error keeps none either way
abbrev pub kept_by : Truth → List ℕ
kept_by True = every
kept_by False = none_kept
kept_by Error = none_kept

abbrev pub kept_under_not : Truth → List ℕ
kept_under_not True = none_kept
kept_under_not False = every
kept_under_not Error = none_kept

abbrev pub has_truth : List ℕ → Truth → List Case
has_truth condition a = keeps_rows condition (kept_by a) ∷ keeps_rows (0x60000000 ∷ condition) (kept_under_not a) ∷ []

-- two terms: their equality, and whether the first is less than the second
abbrev pub two_terms : ℕ → ℕ → Truth → Truth → List Case
two_terms a b equal less = has_truth (0x70000000 ∷ a ∷ b ∷ []) equal ++ has_truth (0x70000002 ∷ a ∷ b ∷ []) less

abbrev pub kinds_of_terms : List Case
kinds_of_terms =
    -- i5 and i6, t5 and t6, n5 and n6
    flatten
    (two_terms 0x40000005 0x40000006 False True
    ∷ two_terms 0x80000005 0x80000006 False True
    ∷ two_terms 0x00000005 0x00000006 False Error
    -- i-3 and i2, both ways round; the least number and the greatest; texts that are far apart
    ∷ two_terms 0x7FFFFFFD 0x40000002 False True
    ∷ two_terms 0x40000002 0x7FFFFFFD False False
    ∷ two_terms 0x60000000 0x5FFFFFFF False True
    ∷ two_terms 0x9FFFFFFF 0xA0000000 False True
    -- the same word: i5, t5, n5
    ∷ two_terms 0x40000005 0x40000005 True False
    ∷ two_terms 0x80000005 0x80000005 True False
    ∷ two_terms 0x00000005 0x00000005 True Error
    -- a number against a text, both ways round
    ∷ two_terms 0x40000005 0x80000006 Error Error
    ∷ two_terms 0x80000005 0x40000006 Error Error
    -- a name against a number, and against a text
    ∷ two_terms 0x00000005 0x40000006 False Error
    ∷ two_terms 0x80000005 0x00000006 False Error
    ∷ [])

-- ---- and, or, not
-- i1 = i1, i1 = i2, n1 < i5
abbrev pub condition_that : Truth → List ℕ
condition_that True = 0x70000000 ∷ 0x40000001 ∷ 0x40000001 ∷ []
condition_that False = 0x70000000 ∷ 0x40000001 ∷ 0x40000002 ∷ []
condition_that Error = 0x70000002 ∷ 0x00000001 ∷ 0x40000005 ∷ []

-- two conditions: their "and", and their "or"
abbrev pub joins : Truth → Truth → Truth → Truth → List Case
joins a b both either =
    has_truth (0x40000000 ∷ (condition_that a ++ condition_that b)) both ++ has_truth (0x50000000 ∷ (condition_that a ++ condition_that b)) either

abbrev pub connectives : List Case
connectives =
    flatten
    (joins True True True True
    ∷ joins True False False True
    ∷ joins True Error Error True
    ∷ joins False True False True
    ∷ joins False False False False
    ∷ joins False Error False Error
    ∷ joins Error True Error True
    ∷ joins Error False False Error
    ∷ joins Error Error Error Error
    ∷ [])

-- "true" alone; and(?1 ≥ i70, ?1 < i310) keeps nothing, or(?1 ≥ i310, ?1 < i70) keeps all; not(?1 ≥ i70), not(not(?1 ≥ i70))
abbrev pub nested : List Case
nested =
    has_truth (0x30000000 ∷ []) True
    ++ (keeps_rows (0x40000000 ∷ 0x70000005 ∷ 0xC0000001 ∷ 0x40000046 ∷ 0x70000002 ∷ 0xC0000001 ∷ 0x40000136 ∷ []) none_kept
    ∷ keeps_rows (0x50000000 ∷ 0x70000005 ∷ 0xC0000001 ∷ 0x40000136 ∷ 0x70000002 ∷ 0xC0000001 ∷ 0x40000046 ∷ []) every
    ∷ keeps_rows (0x60000000 ∷ 0x70000005 ∷ 0xC0000001 ∷ 0x40000046 ∷ []) thin
    ∷ keeps_rows (0x60000000 ∷ 0x60000000 ∷ 0x70000005 ∷ 0xC0000001 ∷ 0x40000046 ∷ []) thick
    ∷ [])
