-- The owners 7 and 8 of the three-stem wood, each with its query among the calls of all: 8 is served between the two turns of 7, and 7 before and after
-- the one turn of 8.
use Rattle.std.specs.Prelude.{ℕ, List, [], ◌∷◌, ◌++◌, map, take, drop, replicate}
use Rattle.turns.specs.declared.TurnEnding.TheVariants.{Done, Spent}
use Rattle.turns.specs.Opening.{open_of}
use Rattle.cuts.specs.Histories.{Event, turns, joins, ServedTurn, Phone, fresh, history}
use Rattle.queues.specs.Lists.{Queue}
use Rattle.queues.specs.Calls.{join, MadeCall, after_calls}
use Rattle.queue_cuts.specs.Owners.{Act, calls, joining, own_events}
use Rattle.worked_cases.specs.Calls.{surveyed}
use Rattle.worked_cases.specs.Wood.{wood, plan_a, state_at, start_of_a, stem}
use Rattle.worked_uploads.specs.Owners.{with_room, no_one, eleven_calls}
use Rattle.worked_premises.specs.Untidy.{turn_that, holding}

-- both lists when 7 has joined, and when 8 has
abbrev pub with_seven : Queue
with_seven = after_calls (surveyed wood) no_one (take 2 eleven_calls)

abbrev pub with_eight : Queue
with_eight = after_calls (surveyed wood) no_one (take 3 eleven_calls)

-- a join without a plan, which 5 refuses
abbrev pub without_plan : MadeCall
without_plan = with_room (join (record { owner = 7; allowance = 4; plan = []; state = start_of_a }))

-- what happens then: all calls that follow, and each turn's list joined behind it; in the end 7, which has left, tries to join and is refused
abbrev pub acts_of_seven : List Act
acts_of_seven = map calls (take 4 (drop 2 eleven_calls)) ++ (joining ∷ (map calls (drop 6 eleven_calls) ++ (joining ∷ calls without_plan ∷ [])))

abbrev pub acts_of_eight : List Act
acts_of_eight = map calls (take 4 (drop 3 eleven_calls)) ++ (joining ∷ map calls (drop 7 eleven_calls))

-- their own cuts: a turn of 4 steps and one of 6; one of 10
abbrev pub events_of_seven : List Event
events_of_seven =
    turns (replicate 7 0) 4 [] (replicate 4 0)
    ∷ joins
    ∷ turns (replicate 6 0) 6 [] (replicate 4 0)
    ∷ joins
    ∷ []

abbrev pub events_of_eight : List Event
events_of_eight = turns (replicate 7 0) 10 [] (replicate 4 0) ∷ joins ∷ []

abbrev pub turns_of_seven : List ServedTurn
turns_of_seven =
    turn_that 4 [] Spent 4 [] (state_at (1 ∷ 3 ∷ []))
    ∷ turn_that 6 [] Done 6 (stem 2 310 ++ stem 3 310) []
    ∷ []

abbrev pub turns_of_eight : List ServedTurn
turns_of_eight = turn_that 10 [] Done 10 (stem 2 310 ++ stem 3 310) [] ∷ []

-- an owner's cut played from the opening, and what is held then
abbrev pub opened_a : Phone
opened_a = fresh (open_of (surveyed wood) plan_a (replicate 11 7))

abbrev pub cut_of : ℕ → Queue → List Act → Phone
cut_of owner q acts = history (surveyed wood) plan_a opened_a ([] ++ own_events (surveyed wood) owner q acts)

abbrev pub both_stems : List ServedTurn → Phone
both_stems xs = holding [] xs [] (stem 2 310 ++ stem 3 310)
