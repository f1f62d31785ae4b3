-- Pruning at later patterns: of three patterns the second level is passed over at one place and the third at another; of eight the last is.
use Rattle.std.specs.Prelude.{ℕ, replicate}
use mathlib.Core.List.{List, [], ◌∷◌, ◌++◌, flatten}
use Rattle.words.specs.Words.{name, variable, word, head_kind, branch_kind, rows_kind, top_kind, rising_kind, falling_kind}
use Rattle.worked_cases.specs.Wood.{wood, always, rows01, top_falling, state_at, start_of_a, stem}
use Rattle.worked_cases.specs.Calls.{Case}
use Rattle.worked_cases.specs.Prunings.{ends, goes_past}

-- ---- plans
-- ?0 n10 n100, ?0 n12 ?1, ?0 n10 ?2, with an ending: n1, n2 and n3 stand at the places 0, 1 and 2 of the first pattern
abbrev pub three_patterns : List ℕ → List ℕ
three_patterns ending =
    word head_kind 1
    ∷ word branch_kind 3
    ∷ variable 0 ∷ name 10 ∷ name 100
    ∷ variable 0 ∷ name 12 ∷ variable 1
    ∷ variable 0 ∷ name 10 ∷ variable 2
    ∷ (always ++ ending)

-- the best row ?0 ?1 by ?0 rising and then ?1 falling: the first key is known at the first pattern, the second at the second
abbrev pub by_two_patterns : List ℕ
by_two_patterns = three_patterns (word top_kind 1 ∷ (rows01 ++ (word rising_kind 0 ∷ word falling_kind 1 ∷ [])))

-- the best row by ?1 falling, which is known at the second pattern
abbrev pub by_second : List ℕ
by_second = three_patterns (top_falling 1)

-- the best row ?0 ?1 ?2 by ?1 falling and then ?2 rising, which is known at the last pattern
abbrev pub by_last : List ℕ
by_last =
    three_patterns
    (word top_kind 1 ∷ word rows_kind 3 ∷ variable 0 ∷ variable 1 ∷ variable 2 ∷ word falling_kind 1 ∷ word rising_kind 2 ∷ [])

-- ?0 n10 n100 six times, ?0 n12 ?1, ?0 n10 n100: the best row by ?1 falling, which is known at the seventh pattern
abbrev pub stand : List ℕ
stand = variable 0 ∷ name 10 ∷ name 100 ∷ []

abbrev pub by_seventh : List ℕ
by_seventh =
    word head_kind 1
    ∷ word branch_kind 8
    ∷ (flatten (replicate 6 stand) ++ ((variable 0 ∷ name 12 ∷ variable 1 ∷ stand) ++ (always ++ top_falling 1)))

-- n1 at the first six patterns, and some places below
abbrev pub at_seventh : List ℕ → List ℕ
at_seventh places = state_at (0 ∷ 0 ∷ 0 ∷ 0 ∷ 0 ∷ 0 ∷ places)

abbrev pub of_later_patterns : List Case
of_later_patterns =
    -- n1 comes before n2 i310, and is finished in five steps
    goes_past by_two_patterns start_of_a (stem 2 310) 5 (state_at (1 ∷ [])) (stem 1 45)
    -- n2 is equal in the first key, and its second level opens; there it is equal in all keys, and the third is passed over
    ∷ goes_past by_two_patterns (state_at (1 ∷ [])) (stem 2 310) 1 (state_at (1 ∷ 3 ∷ [])) []
    ∷ goes_past by_two_patterns (state_at (1 ∷ 3 ∷ [])) (stem 2 310) 1 (state_at (1 ∷ 4 ∷ [])) []
    ∷ goes_past by_two_patterns (state_at (1 ∷ 4 ∷ [])) (stem 2 310) 1 (state_at (2 ∷ [])) []
    -- n3 comes after it in the first key, and its second level is passed over
    ∷ goes_past by_two_patterns (state_at (2 ∷ [])) (stem 2 310) 1 (state_at (3 ∷ [])) []
    -- 5 + 3 + 1 + 1 steps; without a threshold three times 5 and 1
    ∷ ends wood by_two_patterns start_of_a (stem 2 310) 10 (stem 1 45)
    ∷ ends wood by_two_patterns start_of_a [] 16 (stem 1 45)
    -- the key of the second pattern alone: nothing is known at the first, and all three are passed over at the second
    ∷ ends wood by_second start_of_a (stem 2 310) 10 []
    ∷ ends wood by_second start_of_a (stem 2 200) 14 (stem 2 310)
    ∷ ends wood by_second start_of_a [] 16 (stem 2 310)
    -- n1 comes after it at the second pattern; n2 and n3 are equal there, their last key is not known, and the third level opens
    ∷ goes_past by_last (state_at (0 ∷ 1 ∷ [])) (stem 2 310 ++ (name 100 ∷ [])) 1 (state_at (0 ∷ 2 ∷ [])) []
    ∷ goes_past by_last (state_at (1 ∷ 3 ∷ [])) (stem 2 310 ++ (name 100 ∷ [])) 1 (state_at (1 ∷ 3 ∷ 2 ∷ [])) []
    ∷ ends wood by_last start_of_a (stem 2 310 ++ (name 100 ∷ [])) 14 []
    -- a third level that is open already is finished
    ∷ ends wood by_second (state_at (2 ∷ 5 ∷ 4 ∷ [])) (stem 2 310) 4 []
    -- of eight levels the last is passed over, in one step
    ∷ goes_past by_seventh (at_seventh (1 ∷ [])) (stem 2 310) 1 (at_seventh (2 ∷ [])) []
    ∷ goes_past by_seventh (at_seventh (1 ∷ [])) (stem 2 40) 1 (at_seventh (1 ∷ 0 ∷ [])) []
    ∷ []
