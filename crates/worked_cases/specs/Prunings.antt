-- Pruning: the three-stem wood with the diameter's pattern first, where a threshold saves two of four steps; keys that are not known yet, keys that a
-- branch never binds, and keys below zero.
use Rattle.std.specs.Prelude.{ℕ, List, [], ◌∷◌, ◌++◌, replicate}
use Rattle.words.specs.declared.Written.TheVariants.{Words}
use Rattle.words.specs.Words.{name, number, variable, word, head_kind, branch_kind, top_kind, rising_kind, falling_kind, survey_word, year_word, position_word}
use Rattle.words.specs.Words.{place_word, unbound}
use Rattle.tables.specs.Tables.{Tables}
use Rattle.turns.specs.declared.TurnEnding.TheVariants.{Done, Spent}
use Rattle.calls.specs.Words.{WordsResult}
use Rattle.turns.specs.Opening.{open_of}
use Rattle.cuts.specs.Histories.{Event, turns, merges, Phone, fresh, history}
use Rattle.worked_cases.specs.Wood.{wood, branch_a, always, rows01, top_falling, top_rising, plan_with, minus1, diameters_are, state_at, start_of_a, stem}
use Rattle.worked_cases.specs.Calls.{merging, merged, Case, surveyed, turn_call, merge_call, kept_buffer, turn_case}

-- ---- plans
-- ?0 n12 ?1, then ?0 n10 n100, with an ending
abbrev pub diameter_first : List ℕ → List ℕ
diameter_first ending =
    word head_kind 1
    ∷ word branch_kind 2
    ∷ variable 0 ∷ name 12 ∷ variable 1
    ∷ variable 0 ∷ name 10 ∷ name 100
    ∷ (always ++ ending)

-- the best row by ?1 falling, its start, and the state that six steps lead to: at the diameter of n3
abbrev pub largest : List ℕ
largest = diameter_first (top_falling 1)

abbrev pub at_diameters : List ℕ
at_diameters = state_at (3 ∷ [])

abbrev pub six_on : List ℕ
six_on = state_at (5 ∷ [])

-- the patterns the other way round: the best row by ?1, and by ?0 rising and then ?1 falling
abbrev pub diameter_second : List ℕ
diameter_second = plan_with always (top_falling 1)

abbrev pub by_stem : List ℕ
by_stem = plan_with always (word top_kind 1 ∷ (rows01 ++ (word rising_kind 0 ∷ word falling_kind 1 ∷ [])))

-- two branches, of which the second, ?0 n10 n100, ?0 n12 ?2, has no ?1; a state of the second at a place of its first pattern
abbrev pub without_key : List ℕ
without_key =
    word head_kind 2
    ∷ (branch_a always
    ++ (word branch_kind 2
    ∷ variable 0 ∷ name 10 ∷ name 100
    ∷ variable 0 ∷ name 12 ∷ variable 2
    ∷ (always ++ top_falling 1)))

abbrev pub in_second : ℕ → List ℕ
in_second place = survey_word 7 ∷ year_word 2026 ∷ position_word 1 1 ∷ place_word place ∷ []

-- ---- short forms: a turn to the end, and one of `steps` steps to a state, each from a state with a threshold
abbrev pub ends : Tables → List ℕ → List ℕ → List ℕ → ℕ → List ℕ → Case
ends t plan from threshold steps list = turn_case (turn_call t plan from 100 threshold 128) Done steps [] list

abbrev pub goes_past : List ℕ → List ℕ → List ℕ → ℕ → List ℕ → List ℕ → Case
goes_past plan from threshold steps to list = turn_case (turn_call wood plan from steps threshold 128) Spent steps to list

-- a list merged into the row n2 i310, which stays
abbrev pub stays : List ℕ → Case
stays list = (
  merging (merge_call largest (stem 2 310) 4 list),
  merged (record { answer = Words 2; buffers = kept_buffer 4 (stem 2 310) }),
)

-- ---- a threshold saves steps
abbrev pub of_prunings : List Case
of_prunings =
    -- a first turn of six steps lists n2 i310, and the rest takes four
    goes_past largest at_diameters [] 6 six_on (stem 2 310)
    ∷ ends wood largest six_on [] 4 (stem 3 310)
    -- with that row as threshold it takes two: n3, equal in all keys, is passed over in a step, and the second is done
    ∷ goes_past largest six_on (stem 2 310) 1 (state_at (6 ∷ [])) []
    ∷ ends wood largest six_on (stem 2 310) 2 []
    -- merged, the list is the same
    ∷ stays (stem 3 310)
    ∷ stays []
    -- from the start on: n1 comes after it, n2 and n3 are equal, and each is passed over; without a threshold there are ten steps
    ∷ ends wood largest at_diameters (stem 2 310) 4 []
    ∷ ends wood largest at_diameters [] 10 (stem 2 310)
    -- a threshold that no row of the wood makes prunes too: i200 leaves n2 and n3, and passes over n1
    ∷ ends wood largest at_diameters (stem 9 200) 8 (stem 2 310)
    -- a level that is open already is finished: its row is made and left out, and three steps end it
    ∷ ends wood largest (state_at (5 ∷ 4 ∷ [])) (stem 2 310) 3 []
    ∷ []

-- ---- which keys are known
abbrev pub of_known_keys : List Case
of_known_keys =
    -- nothing is pruned on a key that is not known: at the first pattern the diameter is not, and the level opens
    goes_past diameter_second start_of_a (stem 2 310) 1 (state_at (0 ∷ 1 ∷ [])) []
    ∷ ends wood diameter_second start_of_a (stem 2 310) 10 []
    -- ?0 is known there: n3 comes after n2 whatever its diameter; n2 is equal, and its diameter is not known: it is finished
    ∷ goes_past by_stem start_of_a (stem 2 310) 6 (state_at (2 ∷ [])) (stem 1 45)
    ∷ goes_past by_stem (state_at (2 ∷ [])) (stem 2 310) 1 (state_at (3 ∷ [])) []
    ∷ ends wood by_stem start_of_a (stem 2 310) 8 (stem 1 45)
    -- a key that the branch never binds is known: unbound comes last by a falling key, and each of three places is passed over in a step
    ∷ goes_past without_key (in_second 0) (stem 2 310) 3 (in_second 3) []
    ∷ ends wood without_key (in_second 0) (stem 2 310) 4 []
    ∷ ends wood without_key (in_second 0) [] 10 (name 1 ∷ unbound ∷ [])
    -- by value, not by word: with i0, i1 and i-1, rising, and n1 i0 as threshold, n3 i-1 is the one that is finished
    ∷ ends (diameters_are (number 0) (number 1) minus1) (diameter_first (top_rising 1)) at_diameters (stem 1 0) 6 (name 3 ∷ minus1 ∷ [])
    ∷ []

-- ---- the calls of a whole query, with that threshold and without
abbrev pub opened_largest : WordsResult
opened_largest = open_of (surveyed wood) largest (replicate 11 7)

-- six steps and a merge; the rest and a merge
abbrev pub events_with : List ℕ → List Event
events_with threshold =
    turns (replicate 7 1) 6 [] (replicate 2 9)
    ∷ merges (replicate 8 4)
    ∷ turns (replicate 7 1) 100 threshold (replicate 2 9)
    ∷ merges (replicate 8 4)
    ∷ []

abbrev pub played_with : List ℕ → Phone
played_with threshold = history (surveyed wood) largest (fresh opened_largest) (events_with threshold)

-- what is held then, by the steps and the list of the second turn
abbrev pub finished_with : List ℕ → ℕ → List ℕ → Phone
finished_with threshold steps list =
    record {
      saved = [];
      taken =
          record { quantum = 6; sent = []; ending = Spent; steps = 6; list = stem 2 310; left = six_on }
          ∷ record { quantum = 100; sent = threshold; ending = Done; steps = steps; list = list; left = [] }
          ∷ [];
      waiting = [];
      kept = stem 2 310;
    }
