-- Three owners on the three-stem wood: one whose steps run out and who is topped up, one who finishes, one who joins with none. And joining with a
-- plan that names a year.
use Rattle.std.specs.Prelude.{ℕ, List, [], ◌∷◌, replicate}
use Rattle.turns.specs.declared.TurnEnding.TheVariants as ending
use Rattle.words.specs.Words.{year_word}
use Rattle.queues.specs.declared.Entry.{Entry}
use Rattle.queues.specs.Lists.{LentLists, lent_as, Queue}
use Rattle.queues.specs.Joining.{Joining, new_entry}
use Rattle.queues.specs.Calls.{QueueCall, join, serve, top_up, MadeCall, Deed, grants, turns, nothing}
use Rattle.worked_cases.specs.Wood.{plan_a, year_state, start_of_a}

-- a query of `owner`, plan A from its start, with `steps` steps
abbrev pub by_owner : ℕ → ℕ → Joining
by_owner owner steps = record { owner = owner; allowance = steps; plan = plan_a; state = start_of_a }

abbrev pub vacant : Entry
vacant = record { allowance = 0; owner = 0; planned = 0; saved = 0; plan = []; state = [] }

abbrev pub with_room : QueueCall → MadeCall
with_room c = record { call = c; behind_line = replicate 32 vacant; behind_aside = replicate 32 vacant }

-- serving for at most ten steps
abbrev pub serve_ten : QueueCall
serve_ten = serve (record { quantum = 10; threshold = []; output = replicate 4 0 })

abbrev pub no_one : Queue
no_one = record { line = []; aside = [] }

abbrev pub eleven_calls : List MadeCall
eleven_calls =
    with_room serve_ten ∷ with_room (join (by_owner 7 4)) ∷ with_room (join (by_owner 8 100)) ∷ with_room (join (by_owner 7 5))
    ∷ with_room (join (by_owner 9 0)) ∷ with_room serve_ten ∷ with_room serve_ten ∷ with_room serve_ten ∷ with_room (top_up 8 6)
    ∷ with_room (top_up 7 6) ∷ with_room serve_ten ∷ []

-- what each did: four are refused, an empty line twice among them, an owner who waits already, and a top-up of one who has left
abbrev pub eleven_deeds : List Deed
eleven_deeds =
    nothing ∷ grants 7 4 ∷ grants 8 100 ∷ nothing ∷ grants 9 0 ∷ turns 7 ending.Spent 4 0 ∷ turns 8 ending.Done 10 90
    ∷ nothing ∷ nothing ∷ grants 7 6 ∷ turns 7 ending.Done 6 0 ∷ []

-- who is left: the owner who joined with no steps
abbrev pub left_over : Queue
left_over = record { line = []; aside = new_entry (by_owner 9 0) ∷ [] }

-- ---- years: lists without entries, and an owner whose plan names a year, from the state at place 0 of another
abbrev pub empty_lists : LentLists
empty_lists = lent_as (replicate 32 vacant) 0 (replicate 32 vacant) 0

abbrev pub joins_of_year : ℕ → ℕ → Joining
joins_of_year named year = record { owner = 7; allowance = 4; plan = year_word named ∷ plan_a; state = year_state year (0 ∷ []) }
