-- Histories that are not tidy, in literal words: several turns before several merges or joins, a threshold merged elsewhere out of lists that are not
-- taken yet, refused turns with thresholds that nobody may send, and merges refused in between.
use Rattle.std.specs.Prelude.{ℕ, List, [], ◌∷◌, ◌++◌, take, drop, replicate}
use Rattle.turns.specs.declared.TurnEnding.{TurnEnding}
use Rattle.turns.specs.declared.TurnEnding.TheVariants.{Done, Spent, Full}
use Rattle.turns.specs.Opening.{open_of}
use Rattle.cuts.specs.Histories.{Event, turns, merges, joins, ServedTurn, Phone, fresh, history}
use Rattle.worked_cases.specs.Calls.{surveyed}
use Rattle.worked_cases.specs.Literals.{stems, stem1, stem2, stem3, ending01, all_diameters, at_place}

-- ---- plans: ?0 n12 ?1, ?0 n10 n100, the two smallest stems by ?1 rising; and ?0 n12 ?1, its rows ?0 ?1
abbrev pub two_smallest : List ℕ
two_smallest =
    0x10000001
    ∷ 0x20000002 ∷ 0xC0000000 ∷ 0x0000000C ∷ 0xC0000001 ∷ 0xC0000000 ∷ 0x0000000A ∷ 0x00000064
    ∷ 0x30000000
    ∷ (0x90000002 ∷ (ending01 ++ (0xA0000001 ∷ [])))

abbrev pub every_stem : List ℕ
every_stem = all_diameters ending01

-- ---- events: a turn with a quantum, a threshold and `room` words of output; a merge with `room` words behind the kept list
abbrev pub turns_for : ℕ → List ℕ → ℕ → Event
turns_for quantum threshold room = turns (replicate 11 1) quantum threshold (replicate room 9)

abbrev pub merges_with : ℕ → Event
merges_with room = merges (replicate room 4)

-- a query of the three-stem wood from its opening
abbrev pub opened_for : List ℕ → Phone
opened_for plan = fresh (open_of (surveyed stems) plan (replicate 11 7))

abbrev pub played_from : List ℕ → Phone → List Event → Phone
played_from plan h events = history (surveyed stems) plan h events

abbrev pub turn_that : ℕ → List ℕ → TurnEnding → ℕ → List ℕ → List ℕ → ServedTurn
turn_that quantum sent ending steps list left =
    record { quantum = quantum; sent = sent; ending = ending; steps = steps; list = list; left = left }

abbrev pub holding : List ℕ → List ServedTurn → List ServedTurn → List ℕ → Phone
holding saved taken waiting kept = record { saved = saved; taken = taken; waiting = waiting; kept = kept }

-- thresholds that nobody may send: a row that the wood does not have, and words that no row has
abbrev pub never_sent : List ℕ
never_sent = 0x00000009 ∷ 0x40000001 ∷ []

abbrev pub no_terms : List ℕ
no_terms = 0xC0000001 ∷ 0xC0000001 ∷ []

-- ---- all turns of the two smallest, and then all merges
-- n1 and n2 are listed. Both lists, neither of them taken, are merged elsewhere, that of n2 first: full with two rows, of which n2 is the last. Sent as
-- threshold it passes n3 over, so that the third turn is done after two steps instead of four
abbrev pub turns_first : List Event
turns_first =
    turns_for 3 [] 4
    -- refused by 11, and by 8
    ∷ turns_for 3 no_terms 4
    ∷ turns_for 0 never_sent 4
    ∷ turns_for 3 [] 4
    -- refused by 7; a merge by 14, in one word; and nothing is joined
    ∷ turns_for 100 never_sent 3
    ∷ merges_with 1
    ∷ joins
    ∷ turns_for 100 stem2 4
    -- refused by 9, after done
    ∷ turns_for 100 never_sent 4
    ∷ []

abbrev pub three_turns : List ServedTurn
three_turns =
    turn_that 3 [] Spent 3 stem1 (at_place 0xF0000004)
    ∷ turn_that 3 [] Spent 3 stem2 (at_place 0xF0000005)
    ∷ turn_that 100 stem2 Done 2 [] []
    ∷ []

abbrev pub three_wait : Phone
three_wait = holding [] [] three_turns []

-- three merges, between them one that 14 refuses, three words for two rows; and one when no list waits
abbrev pub merges_then : List Event
merges_then = merges_with 2 ∷ merges_with 1 ∷ merges_with 2 ∷ merges_with 0 ∷ merges_with 2 ∷ []

abbrev pub three_taken : Phone
three_taken = holding [] three_turns [] (stem1 ++ stem2)

-- ---- turns and merges by turns, while two and three lists wait
-- the threshold is merged out of a list that is taken and one that is not
abbrev pub by_turns : List Event
by_turns =
    turns_for 3 [] 4
    ∷ turns_for 3 [] 4
    ∷ merges_with 2
    ∷ turns_for 1 stem2 4
    -- refused by 11, and by 14
    ∷ turns_for 1 no_terms 4
    ∷ merges_with 1
    ∷ turns_for 100 [] 4
    ∷ merges_with 2
    ∷ []

abbrev pub two_wait : Phone
two_wait =
    holding []
    (take 2 three_turns)
    (turn_that 1 stem2 Spent 1 [] (at_place 0xF0000006) ∷ turn_that 100 [] Done 1 [] [] ∷ [])
    (stem1 ++ stem2)

-- ---- a row query, whose lists are joined end to end while two of them wait
abbrev pub joins_behind : List Event
joins_behind =
    turns_for 100 [] 2
    ∷ turns_for 1 [] 2
    -- refused by 12: the lists of a row query are not merged
    ∷ merges_with 8
    ∷ joins
    -- refused by 11: no threshold is sent for rows
    ∷ turns_for 1 stem2 2
    ∷ turns_for 1 [] 2
    ∷ joins
    ∷ turns_for 100 [] 2
    ∷ []

abbrev pub four_turns : List ServedTurn
four_turns =
    turn_that 100 [] Full 1 stem1 (at_place 0xF0000004)
    ∷ turn_that 1 [] Spent 1 stem2 (at_place 0xF0000005)
    ∷ turn_that 1 [] Spent 1 stem3 (at_place 0xF0000006)
    ∷ turn_that 100 [] Done 1 [] []
    ∷ []

abbrev pub two_joined : Phone
two_joined = holding [] (take 2 four_turns) (drop 2 four_turns) (stem1 ++ stem2)

-- two joins, and one when no list waits
abbrev pub joins_then : List Event
joins_then = joins ∷ joins ∷ joins ∷ []

abbrev pub all_joined : Phone
all_joined = holding [] four_turns [] (stem1 ++ (stem2 ++ stem3))
