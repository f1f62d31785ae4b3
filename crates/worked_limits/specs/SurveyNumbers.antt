-- The number of a survey, in literal words: what stands before a state, and which states it refuses.
use Rattle.std.specs.Prelude.{ℕ, List, [], ◌∷◌, replicate}
use Rattle.words.specs.declared.Written.TheVariants.{Refused}
use Rattle.calls.specs.Words.{written_over}
use Rattle.turns.specs.declared.TurnEnding.TheVariants.{Spent}
use Rattle.turns.specs.Surveys.{under_number}
use Rattle.worked_cases.specs.Calls.{opening, opened, Case, turn_under, turn_case, not_turned}
use Rattle.worked_cases.specs.Literals.{stems, ending01}
use Rattle.worked_limits.specs.Closings.{stems_with}

-- plan A: ?0 n10 n100, ?0 n12 ?1, ?1 ≥ i70, rows ?0 ?1
abbrev pub literal_plan_a : List ℕ
literal_plan_a = stems_with (0x70000005 ∷ 0xC0000001 ∷ 0x40000046 ∷ []) ending01

-- an opening under the number `n` writes `words`, or is refused by the number `x` over a state buffer of `room` words
abbrev pub opens_under : ℕ → List ℕ → Case
opens_under n words = (opening (under_number n stems) literal_plan_a (replicate 11 7), opened (written_over words (replicate 11 7)))

abbrev pub not_opened_under : ℕ → ℕ → ℕ → Case
not_opened_under n room x = (
  opening (under_number n stems) literal_plan_a (replicate room 7),
  opened (record { answer = Refused x; buffers = replicate room 7 }),
)

-- a turn of one step under a number from some words to others, or refused
abbrev pub goes_under : ℕ → List ℕ → List ℕ → Case
goes_under n from to = turn_case (turn_under (under_number n stems) literal_plan_a from 1 [] 128) Spent 1 to []

abbrev pub not_under : ℕ → List ℕ → ℕ → Case
not_under n words x = not_turned (turn_under (under_number n stems) literal_plan_a words 1 [] 128) x

abbrev pub of_surveys : List Case
of_surveys =
    -- survey 7: the start of plan A, and the state after one step
    opens_under 7 (0xD0000007 ∷ 0x000007EA ∷ 0xE0000001 ∷ 0xF0000000 ∷ [])
    ∷ goes_under 7 (0xD0000007 ∷ 0x000007EA ∷ 0xE0000001 ∷ 0xF0000000 ∷ [])
    (0xD0000007 ∷ 0x000007EA ∷ 0xE0000002 ∷ 0xF0000000 ∷ 0xF0000001 ∷ [])
    -- the least number and the most
    ∷ opens_under 0 (0xD0000000 ∷ 0x000007EA ∷ 0xE0000001 ∷ 0xF0000000 ∷ [])
    ∷ opens_under 0x0FFFFFFF (0xDFFFFFFF ∷ 0x000007EA ∷ 0xE0000001 ∷ 0xF0000000 ∷ [])
    ∷ goes_under 0x0FFFFFFF (0xDFFFFFFF ∷ 0x000007EA ∷ 0xE0000001 ∷ 0xF0000000 ∷ [])
    (0xDFFFFFFF ∷ 0x000007EA ∷ 0xE0000002 ∷ 0xF0000000 ∷ 0xF0000001 ∷ [])
    -- a state of survey 6 is refused by 22, also where its places are wrong; under its own number the places are, by 10
    ∷ not_under 7 (0xD0000006 ∷ 0x000007EA ∷ 0xE0000001 ∷ 0xF0000000 ∷ []) 22
    ∷ not_under 7 (0xD0000006 ∷ 0x000007EA ∷ 0xE0000001 ∷ 0xF0000004 ∷ []) 22
    ∷ not_under 6 (0xD0000006 ∷ 0x000007EA ∷ 0xE0000001 ∷ 0xF0000004 ∷ []) 10
    -- a wrong shape is refused by 9 first: of a depth that is not there, of a year that is not read, and without a survey's word
    ∷ not_under 7 (0xD0000006 ∷ 0x000007EA ∷ 0xE0000003 ∷ 0xF0000000 ∷ []) 9
    ∷ not_under 7 (0xD0000006 ∷ 0x000007E9 ∷ 0xE0000001 ∷ 0xF0000000 ∷ []) 9
    ∷ not_under 7 (0x000007EA ∷ 0xE0000001 ∷ 0xF0000000 ∷ []) 9
    -- 2^28 is refused by 22, in opening after 7 and in a turn after 9, also where the number's 28 low bits are the state's
    ∷ not_opened_under 0x10000000 11 22
    ∷ not_opened_under 0x10000000 10 7
    ∷ not_under 0x10000000 (0xD0000000 ∷ 0x000007EA ∷ 0xE0000001 ∷ 0xF0000000 ∷ []) 22
    ∷ not_under 0x10000000 (0xD0000000 ∷ 0x000007EA ∷ 0xE0000001 ∷ 0xF0000004 ∷ []) 22
    ∷ not_under 0x10000000 (0xD0000000 ∷ 0x000007EA ∷ 0xE0000003 ∷ 0xF0000000 ∷ []) 9
    -- a buffer of 10 words is refused by 7, of 11 it is not
    ∷ not_opened_under 7 10 7
    ∷ []
