-- Joining, serving and topping up, in literal words: where entries come to stand, 17, 18 and 19 on both sides of their limits, and two faults at once.
use Rattle.std.specs.Prelude.{ℕ, replicate}
use mathlib.Core.List.{List, [], ◌∷◌, ◌++◌, map, flatten}
use Rattle.tables.specs.Tables.{tables_of}
use Rattle.turns.specs.Surveys.{Survey, under_number}
use Rattle.turns.specs.declared.TurnEnding.TheVariants.{Done, Spent, Full}
use Rattle.queues.specs.declared.Entry.{Entry}
use Rattle.queues.specs.Lists.{LentLists}
use Rattle.queues.specs.Joining.{Joining}
use Rattle.queues.specs.Serving.{Serving}
use Rattle.worked_cases.specs.Calls.{surveyed}
use Rattle.worked_cases.specs.Literals.{stems, in2026, at_place, all_diameters}
use Rattle.worked_queues.specs.QueueCases.{QueueCase, joining, serving, topping, stems_query, at_start, at_second, at_third, entry_holding, waits, crowd}
use Rattle.worked_queues.specs.QueueCases.{leftover, in_buffers, both_lists, joins_with, newcomer, arrived, leaves_lists, not_joined, not_topped_up}
use Rattle.worked_queues.specs.QueueCases.{plainly, leaves_served, not_serving}

-- ---- surveys: the three-stem wood under 7; and with a fault in its tables
abbrev pub survey7 : Survey
survey7 = surveyed stems

abbrev pub faulty_surveys : List (Survey × ℕ)
faulty_surveys =
    (surveyed (tables_of stems.rows [] stems.osp), 1)
    ∷ (surveyed (tables_of (0x000007EA ∷ 0x00000001 ∷ 0x0000000A ∷ 0x00000064 ∷ []) (0 ∷ []) (0 ∷ [])), 2)
    ∷ (surveyed (tables_of (0x40002710 ∷ 0x00000001 ∷ 0x0000000A ∷ 0x00000064 ∷ []) (0 ∷ []) (0 ∷ [])), 23)
    ∷ (surveyed (tables_of (0x400007EA ∷ 2 ∷ 1 ∷ 8 ∷ 0x400007EA ∷ 1 ∷ 2 ∷ 9 ∷ []) (0 ∷ 1 ∷ []) (0 ∷ 1 ∷ [])), 3)
    ∷ (surveyed (tables_of stems.rows stems.pos (0 ∷ 2 ∷ 1 ∷ 4 ∷ 3 ∷ 5 ∷ [])), 4)
    ∷ []

-- ---- lists with a fault, whoever joins, is served or is topped up: owners 1 to 3 wait, 4 and 5 are set aside
abbrev pub three_in_line : List Entry
three_in_line = waits 1 2 ∷ waits 2 4 ∷ waits 3 6 ∷ []

abbrev pub two_aside : List Entry
two_aside = waits 4 0 ∷ waits 5 0 ∷ []

abbrev pub by17 : List LentLists
by17 =
    -- a second entry in the line, set aside, and across both, at any places
    both_lists (three_in_line ++ (waits 2 4 ∷ [])) two_aside
    ∷ both_lists (waits 1 2 ∷ waits 1 1 ∷ []) two_aside
    ∷ both_lists three_in_line (waits 4 0 ∷ waits 5 0 ∷ waits 4 0 ∷ [])
    ∷ both_lists three_in_line (waits 4 0 ∷ waits 5 0 ∷ waits 1 0 ∷ [])
    ∷ both_lists three_in_line (waits 3 0 ∷ waits 4 0 ∷ waits 5 0 ∷ [])
    -- 0 steps in the line, and steps set aside
    ∷ both_lists (three_in_line ++ (waits 6 0 ∷ [])) two_aside
    ∷ both_lists three_in_line (two_aside ++ (waits 6 1 ∷ []))
    ∷ both_lists three_in_line (waits 6 1 ∷ two_aside)
    -- that, and buffers of 31; that, in over 32 entries, the fault being the last
    ∷ in_buffers 31 31 three_in_line (waits 6 1 ∷ two_aside)
    ∷ in_buffers 40 40 (three_in_line ++ crowd 20 32 5) (two_aside ++ (waits 1 0 ∷ []))
    ∷ []

abbrev pub by18 : List LentLists
by18 =
    -- buffers of 31
    in_buffers 31 32 three_in_line two_aside
    ∷ in_buffers 32 31 three_in_line two_aside
    -- 33 entries in all, the most in the line, set aside, and half of them in each
    ∷ in_buffers 40 40 (three_in_line ++ crowd 20 28 5) two_aside
    ∷ in_buffers 40 40 (waits 1 2 ∷ []) (two_aside ++ crowd 20 30 0)
    ∷ in_buffers 40 40 (three_in_line ++ crowd 20 14 5) (two_aside ++ crowd 50 14 0)
    -- a count past its buffer
    ∷ record { line = replicate 32 leftover; waiting = 0; aside = two_aside ++ crowd 20 30 0; resting = 33 }
    ∷ []

abbrev pub faulty_lists : List LentLists
faulty_lists = both_lists three_in_line two_aside ∷ (by17 ++ by18)

-- ---- joining
-- the plan: 00000000 at its end, which is no ending; a variable in its ending that no branch binds; the year 10,000. The state: a depth that is not
-- there, another survey's, and a place that is none of its range; and two of these
abbrev pub faulty_joins : List (Joining × ℕ)
faulty_joins =
    (joins_with 9 4 (all_diameters (0x00000000 ∷ [])) at_start, 5)
    ∷ (joins_with 9 4 (all_diameters (0x80000001 ∷ 0xC0000002 ∷ [])) at_start, 6)
    ∷ (joins_with 9 4 (0x00002710 ∷ stems_query) at_start, 23)
    ∷ (joins_with 9 4 stems_query (in2026 (0xE0000002 ∷ 0xF0000003 ∷ 0xF0000000 ∷ [])), 9)
    ∷ (joins_with 9 4 stems_query (0xD0000006 ∷ 0x000007EA ∷ 0xE0000001 ∷ 0xF0000003 ∷ []), 22)
    ∷ (joins_with 9 4 stems_query (at_place 0xF0000002), 10)
    ∷ (joins_with 9 0 (all_diameters (0x00000000 ∷ [])) [], 5)
    ∷ (joins_with 9 0 stems_query (0xD0000006 ∷ 0x000007E9 ∷ 0xE0000001 ∷ 0xF0000003 ∷ []), 9)
    ∷ (joins_with 9 0 stems_query (0xD0000006 ∷ 0x000007EA ∷ 0xE0000001 ∷ 0xF0000002 ∷ []), 22)
    ∷ []

abbrev pub of_joins : List QueueCase
of_joins =
    -- with steps to the end of the line, without to the end of the list set aside
    (joining survey7 (both_lists [] []) (newcomer 9 4), leaves_lists 1 (arrived 9 4 ∷ []) 0 [])
    ∷ (joining survey7 (both_lists [] []) (newcomer 9 0), leaves_lists 0 [] 1 (arrived 9 0 ∷ []))
    ∷ (joining survey7 (both_lists three_in_line two_aside) (newcomer 9 1), leaves_lists 4 (three_in_line ++ (arrived 9 1 ∷ [])) 2 two_aside)
    ∷ (joining survey7 (both_lists three_in_line two_aside) (newcomer 9 0), leaves_lists 3 three_in_line 3 (two_aside ++ (arrived 9 0 ∷ [])))
    -- owner 0, and the greatest with the most steps, are owners like any other
    ∷ (joining survey7 (both_lists three_in_line two_aside) (newcomer 0 4), leaves_lists 4 (three_in_line ++ (arrived 0 4 ∷ [])) 2 two_aside)
    ∷ (
      joining survey7 (both_lists three_in_line two_aside) (newcomer 0xFFFFFFFF 0xFFFFFFFFFFFFFFFF),
      leaves_lists 4 (three_in_line ++ (arrived 0xFFFFFFFF 0xFFFFFFFFFFFFFFFF ∷ [])) 2 two_aside,
    )
    -- a second entry by joining: in the line, set aside
    ∷ not_joined survey7 (both_lists three_in_line two_aside) (newcomer 1 4) 17
    ∷ not_joined survey7 (both_lists three_in_line two_aside) (newcomer 3 0) 17
    ∷ not_joined survey7 (both_lists three_in_line two_aside) (newcomer 4 4) 17
    ∷ not_joined survey7 (both_lists three_in_line two_aside) (newcomer 5 0) 17
    ∷ not_joined survey7 (in_buffers 31 31 three_in_line two_aside) (newcomer 5 0) 17
    -- a 32nd entry, to the line and set aside
    ∷ (joining survey7 (both_lists (crowd 20 31 5) []) (newcomer 9 4), leaves_lists 32 (crowd 20 31 5 ++ (arrived 9 4 ∷ [])) 0 [])
    ∷ (
      joining survey7 (both_lists (waits 1 2 ∷ []) (crowd 20 30 0)) (newcomer 9 0),
      leaves_lists 1 (waits 1 2 ∷ []) 31 (crowd 20 30 0 ++ (arrived 9 0 ∷ [])),
    )
    -- a 33rd: with all in the line, with all set aside, with half of them in each
    ∷ not_joined survey7 (both_lists (crowd 20 32 5) []) (newcomer 9 4) 18
    ∷ not_joined survey7 (both_lists [] (crowd 20 32 0)) (newcomer 9 4) 18
    ∷ not_joined survey7 (in_buffers 40 40 (crowd 20 16 5) (crowd 60 16 0)) (newcomer 9 0) 18
    ∷ []

-- the tables' faults first, then those of plan and state, then 17 and 18, whichever lists
abbrev pub of_join_faults : List QueueCase
of_join_faults =
    flatten
    (map (λ (f : Survey × ℕ). map (λ (l : LentLists). not_joined f.0 l (joins_with 1 4 [] []) f.1) faulty_lists) faulty_surveys
    ++ (map (λ (f : Joining × ℕ). map (λ (l : LentLists). not_joined survey7 l f.0 f.1) faulty_lists) faulty_joins
    ++ (map (λ (l : LentLists). not_joined survey7 l (newcomer 9 4) 17) by17
    ∷ map (λ (l : LentLists). not_joined survey7 l (newcomer 9 0) 17) by17
    ∷ map (λ (l : LentLists). not_joined survey7 l (newcomer 9 4) 18) by18
    ∷ [])))

-- ---- serving
-- stems as they are delivered, in an output of four words that held 9
abbrev pub of_serves : List QueueCase
of_serves =
    -- unfinished with steps left: to the back of the line
    (
      serving survey7 (both_lists (waits 1 4 ∷ waits 2 4 ∷ []) two_aside) (plainly 1 4),
      leaves_served 1 Spent 1 4 1 3 2 (waits 2 4 ∷ entry_holding stems_query at_second 1 3 ∷ []) 2 two_aside (1 ∷ 9 ∷ 9 ∷ 9 ∷ []),
    )
    ∷ (
      serving survey7 (both_lists (waits 1 4 ∷ waits 2 4 ∷ []) two_aside) (plainly 10 1),
      leaves_served 1 Full 1 4 1 3 2 (waits 2 4 ∷ entry_holding stems_query at_second 1 3 ∷ []) 2 two_aside (1 ∷ []),
    )
    -- with none: to the end of the list set aside. Behind the line its place keeps its entry
    ∷ (
      serving survey7 (both_lists (waits 1 2 ∷ waits 2 4 ∷ []) two_aside) (plainly 10 4),
      leaves_served 1 Spent 2 4 2 0 1 (waits 2 4 ∷ waits 2 4 ∷ []) 3 (two_aside ++ (entry_holding stems_query at_third 1 0 ∷ [])) (1 ∷ 2 ∷ 9 ∷ 9 ∷ []),
    )
    ∷ (
      serving survey7 (both_lists (waits 1 1 ∷ []) []) (plainly 10 1),
      leaves_served 1 Spent 1 4 1 0 0 (waits 1 1 ∷ []) 1 (entry_holding stems_query at_second 1 0 ∷ []) (1 ∷ []),
    )
    -- done: it leaves, with what was left
    ∷ (
      serving survey7 (both_lists (waits 1 9 ∷ waits 2 4 ∷ waits 3 5 ∷ []) two_aside) (plainly 10 4),
      leaves_served 1 Done 4 0 3 5 2 (waits 2 4 ∷ waits 3 5 ∷ waits 3 5 ∷ []) 2 two_aside (1 ∷ 2 ∷ 3 ∷ 9 ∷ []),
    )
    -- 8 is on the quantum of the call, whatever is left: 1,000,000 runs for the two steps that are, 1,000,001 and 0 are refused
    ∷ (
      serving survey7 (both_lists (waits 1 2 ∷ []) []) (plainly 1000000 4),
      leaves_served 1 Spent 2 4 2 0 0 (waits 1 2 ∷ []) 1 (entry_holding stems_query at_third 1 0 ∷ []) (1 ∷ 2 ∷ 9 ∷ 9 ∷ []),
    )
    ∷ not_serving survey7 (both_lists (waits 1 2 ∷ []) []) (plainly 1000001 4) 8
    ∷ not_serving survey7 (both_lists (waits 1 2 ∷ []) []) (plainly 0 4) 8
    -- 32 entries in all, the most in the line, set aside, and half of them in each
    ∷ (
      serving survey7 (both_lists (waits 1 4 ∷ crowd 20 31 5) []) (plainly 1 4),
      leaves_served 1 Spent 1 4 1 3 32 (crowd 20 31 5 ++ (entry_holding stems_query at_second 1 3 ∷ [])) 0 [] (1 ∷ 9 ∷ 9 ∷ 9 ∷ []),
    )
    ∷ (
      serving survey7 (both_lists (waits 1 1 ∷ []) (crowd 20 31 0)) (plainly 1 4),
      leaves_served 1 Spent 1 4 1 0 0 (waits 1 1 ∷ []) 32 (crowd 20 31 0 ++ (entry_holding stems_query at_second 1 0 ∷ [])) (1 ∷ 9 ∷ 9 ∷ 9 ∷ []),
    )
    ∷ (
      serving survey7 (both_lists (waits 1 4 ∷ crowd 20 15 5) (crowd 60 16 0)) (plainly 1 4),
      leaves_served 1 Spent 1 4 1 3 16 (crowd 20 15 5 ++ (entry_holding stems_query at_second 1 3 ∷ [])) 16 (crowd 60 16 0) (1 ∷ 9 ∷ 9 ∷ 9 ∷ []),
    )
    ∷ []

-- the front entry and the call: its plan, an output of no words, both quanta, its state, and a threshold that no row query has
abbrev pub faulty_serves : List ((Entry × Serving) × ℕ)
faulty_serves =
    ((entry_holding (all_diameters (0x00000000 ∷ [])) at_start 1 2, plainly 1 4), 5)
    ∷ ((record { allowance = 2; owner = 1; planned = 10; saved = 4; plan = stems_query ++ (5 ∷ []); state = at_start ++ replicate 7 0 }, plainly 1 4), 5)
    ∷ ((entry_holding (all_diameters (0x80000001 ∷ 0xC0000002 ∷ [])) at_start 1 2, plainly 1 4), 6)
    ∷ ((entry_holding (0x00002710 ∷ stems_query) at_start 1 2, plainly 1 4), 23)
    ∷ ((waits 1 2, plainly 1 0), 7)
    ∷ ((waits 1 2, plainly 0 4), 8)
    ∷ ((waits 1 2, plainly 1000001 4), 8)
    ∷ ((entry_holding stems_query (in2026 (0xE0000002 ∷ 0xF0000003 ∷ 0xF0000000 ∷ [])) 1 2, plainly 1 4), 9)
    ∷ ((record { allowance = 2; owner = 1; planned = 8; saved = 12; plan = stems_query; state = at_start ++ replicate 7 0 }, plainly 1 4), 9)
    ∷ ((entry_holding stems_query (0xD0000006 ∷ 0x000007EA ∷ 0xE0000001 ∷ 0xF0000003 ∷ []) 1 2, plainly 1 4), 22)
    ∷ ((entry_holding stems_query (at_place 0xF0000002) 1 2, plainly 1 4), 10)
    ∷ ((waits 1 2, record { quantum = 1; threshold = 1 ∷ []; output = replicate 4 9 }), 11)
    -- two of these
    ∷ ((entry_holding (all_diameters (0x00000000 ∷ [])) at_start 1 2, plainly 0 0), 5)
    ∷ ((waits 1 2, plainly 0 0), 7)
    ∷ ((entry_holding stems_query [] 1 2, plainly 1000001 4), 8)
    ∷ ((entry_holding stems_query (0xD0000006 ∷ 0x000007EA ∷ 0xE0000001 ∷ 0xF0000002 ∷ []) 1 2, plainly 1 4), 22)
    ∷ ((entry_holding stems_query (at_place 0xF0000002) 1 2, record { quantum = 1; threshold = 1 ∷ []; output = replicate 4 9 }), 10)
    ∷ []

-- lists with a front entry: right ones, and those that 17, 18 and both refuse
abbrev pub lists_behind : Entry → List LentLists
lists_behind e =
    both_lists (e ∷ waits 2 4 ∷ []) two_aside
    ∷ both_lists (e ∷ waits 2 4 ∷ waits 2 4 ∷ []) two_aside
    ∷ in_buffers 31 32 (e ∷ waits 2 4 ∷ []) two_aside
    ∷ in_buffers 32 31 (e ∷ waits 2 0 ∷ []) two_aside
    ∷ []

abbrev pub of_serve_faults : List QueueCase
of_serve_faults =
    flatten
    (map (λ (f : Survey × ℕ). map (λ (l : LentLists). not_serving f.0 l (plainly 0 0) f.1) (lists_behind (entry_holding [] [] 1 2))) faulty_surveys
    ++ (map (λ (f : (Entry × Serving) × ℕ). map (λ (l : LentLists). not_serving survey7 l f.0.1 f.1) (lists_behind f.0.0)) faulty_serves
    ++ (map (λ (l : LentLists). not_serving survey7 l (plainly 1 4) 17) by17
    ∷ map (λ (l : LentLists). not_serving survey7 l (plainly 1 4) 18) by18
    -- a front without steps is a fault of the line, not of the quantum; a line counted past its buffer
    ∷ (not_serving survey7 (both_lists (waits 1 0 ∷ waits 2 4 ∷ []) two_aside) (plainly 1 4) 17
    ∷ not_serving survey7 (record { line = waits 1 2 ∷ crowd 20 31 5; waiting = 33; aside = replicate 32 leftover; resting = 0 }) (plainly 1 4) 18
    ∷ [])
    ∷ [])))

-- ---- serving an empty line
-- right lists, and those that 17, 18 and both refuse; a line that is given entries and has none in its buffer is empty too
abbrev pub lists_of_no_line : List (LentLists × ℕ)
lists_of_no_line =
    (both_lists [] [], 19)
    ∷ (both_lists [] two_aside, 19)
    ∷ (both_lists [] (crowd 20 32 0), 19)
    ∷ (both_lists [] (two_aside ++ (waits 6 1 ∷ [])), 17)
    ∷ (both_lists [] (waits 4 0 ∷ waits 5 0 ∷ waits 4 0 ∷ []), 17)
    ∷ (in_buffers 31 32 [] two_aside, 18)
    ∷ (in_buffers 32 31 [] two_aside, 18)
    ∷ (in_buffers 40 40 [] (crowd 20 33 0), 18)
    ∷ (record { line = []; waiting = 1; aside = replicate 32 leftover; resting = 0 }, 18)
    ∷ (in_buffers 31 31 [] (waits 6 1 ∷ []), 17)
    ∷ []

abbrev pub of_empty_lines : List QueueCase
of_empty_lines =
    flatten
    (map (λ (l : LentLists × ℕ). not_serving survey7 l.0 (plainly 1 0) l.1) lists_of_no_line
    -- a threshold and an output of no words are nobody's
    ∷ map (λ (l : LentLists × ℕ). not_serving survey7 l.0 (record { quantum = 1000000; threshold = 1 ∷ []; output = [] }) l.1) lists_of_no_line
    -- 8, 22, and both; the tables' faults before them
    ∷ map (λ (l : LentLists × ℕ). not_serving survey7 l.0 (plainly 0 4) 8) lists_of_no_line
    ∷ map (λ (l : LentLists × ℕ). not_serving survey7 l.0 (plainly 1000001 4) 8) lists_of_no_line
    ∷ map (λ (l : LentLists × ℕ). not_serving (under_number 0x10000000 stems) l.0 (plainly 1 4) 22) lists_of_no_line
    ∷ map (λ (l : LentLists × ℕ). not_serving (under_number 0x10000000 stems) l.0 (plainly 1000001 4) 8) lists_of_no_line
    ∷ map (λ (f : Survey × ℕ). not_serving f.0 (both_lists [] []) (plainly 0 4) f.1) faulty_surveys
    ∷ [])

-- ---- topping up
abbrev pub of_top_ups : List QueueCase
of_top_ups =
    -- from any place of the list set aside to the end of the line, with the amount; the others keep their order
    (topping (both_lists [] (waits 4 0 ∷ [])) 4 1, leaves_lists 1 (waits 4 1 ∷ []) 0 (waits 4 0 ∷ []))
    ∷ (
      topping (both_lists three_in_line (waits 6 0 ∷ two_aside)) 6 7,
      leaves_lists 4 (three_in_line ++ (waits 6 7 ∷ [])) 2 (waits 4 0 ∷ waits 5 0 ∷ waits 5 0 ∷ []),
    )
    ∷ (
      topping (both_lists three_in_line (waits 6 0 ∷ two_aside)) 4 0x100000000,
      leaves_lists 4 (three_in_line ++ (waits 4 0x100000000 ∷ [])) 2 (waits 6 0 ∷ waits 5 0 ∷ waits 5 0 ∷ []),
    )
    ∷ (
      topping (both_lists three_in_line (waits 6 0 ∷ two_aside)) 5 1,
      leaves_lists 4 (three_in_line ++ (waits 5 1 ∷ [])) 2 (waits 6 0 ∷ waits 4 0 ∷ waits 5 0 ∷ []),
    )
    -- an amount of 0; an owner in the line, in neither list, and past the lists in both buffers
    ∷ not_topped_up (both_lists three_in_line two_aside) 4 0 17
    ∷ not_topped_up (both_lists three_in_line two_aside) 2 5 17
    ∷ not_topped_up (both_lists three_in_line two_aside) 6 5 17
    ∷ not_topped_up (both_lists (waits 2 4 ∷ []) two_aside) 1 5 17
    ∷ not_topped_up (in_buffers 31 31 three_in_line two_aside) 4 0 17
    -- 32 entries in all
    ∷ (
      topping (both_lists (crowd 20 31 5) (waits 4 0 ∷ [])) 4 3,
      leaves_lists 32 (crowd 20 31 5 ++ (waits 4 3 ∷ [])) 0 (waits 4 0 ∷ []),
    )
    ∷ (
      topping (both_lists [] (waits 4 0 ∷ crowd 20 31 0)) 4 3,
      leaves_lists 1 (waits 4 3 ∷ []) 31 (crowd 20 31 0 ++ (waits 50 0 ∷ [])),
    )
    ∷ (map (λ (l : LentLists). not_topped_up l 4 3 17) by17 ++ map (λ (l : LentLists). not_topped_up l 4 3 18) by18)

-- ---- all of them
abbrev pub of_queues : List QueueCase
of_queues = of_joins ++ (of_join_faults ++ (of_serves ++ (of_serve_faults ++ (of_empty_lines ++ of_top_ups))))
