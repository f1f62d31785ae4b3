-- The starred cases of "The three-stem wood", those of a best-of list of no given number, of the record of no rows and of numbers below zero, as one
-- table.
use Rattle.std.specs.Prelude.{ℕ, List, [], ◌∷◌, ◌++◌, map, take, replicate}
use Rattle.std.proofs.Math.Option.{none, some}
use Rattle.words.specs.declared.Written.TheVariants.{Words}
use Rattle.calls.specs.Words.{written_over}
use Rattle.words.specs.Words.{name, number, text, word, not_kind}
use Rattle.sequences.specs.Sequences.{over}
use Rattle.steps.specs.Steps.{in_year}
use Rattle.turns.specs.declared.TurnEnding.TheVariants.{Done, Spent, Full}
use Rattle.worked_cases.specs.Wood.{wood, no_rows, with_osp, not_error, or_error, rows01, plan_with, plan_a, plan_twice, plan_top, plan_group}
use Rattle.worked_cases.specs.Wood.{always, at_least1000, top_falling, top_rising, top_diameters, group1, groups0, state_at, start_of_a}
use Rattle.worked_cases.specs.Wood.{start_of_nothing, no_rows_record, three_stems, stem, minus1, minus3, minus5, diameters_are, less_words, one_summed}
use Rattle.worked_cases.specs.Calls.{opening, opened, merging, merged, running, ran, Case, surveyed, turn_call, turn_case, not_turned}
use Rattle.worked_cases.specs.Calls.{merge_call, kept_buffer, not_merged}

-- a turn that has all the steps and the room that it needs
abbrev pub whole : List ℕ → ℕ → List ℕ → Case
whole plan steps list = turn_case (turn_call wood plan start_of_a 100 [] 128) Done steps [] list

-- the best rows of two words, and of one, k being 0
abbrev pub unnumbered : List ℕ
unnumbered = plan_with always (top_falling 0)

abbrev pub unnumbered_diameters : List ℕ
unnumbered_diameters = plan_with always (top_diameters 0)

-- i20, i19 and on to i11, ten rows of one word
abbrev pub ten_diameters : List ℕ
ten_diameters = map number (20 ∷ 19 ∷ 18 ∷ 17 ∷ 16 ∷ 15 ∷ 14 ∷ 13 ∷ 12 ∷ 11 ∷ [])

-- a list merged into another, and what is then kept
abbrev pub merges : List ℕ → List ℕ → List ℕ → List ℕ → Case
merges plan kept list result = (
  merging (merge_call plan kept 16 list),
  merged (written_over result (kept_buffer 16 kept)),
)

abbrev pub starred : List Case
starred =
    -- opening writes the start: the survey's number, the year, branch 0, depth 1, its range's first place
    (opening (surveyed wood) plan_a (replicate 12 5), opened (record { answer = Words 4; buffers = over start_of_a (replicate 12 5) }))
    -- A in full: rows n2 i310 and n3 i310, 10 steps
    ∷ whole plan_a 10 (stem 2 310 ++ stem 3 310)
    ∷ (running wood plan_a 10, ran none (stem 2 310 ++ stem 3 310))
    -- quantum 10 is done; 9 is spent at depth 1, place 3
    ∷ turn_case (turn_call wood plan_a start_of_a 10 [] 128) Done 10 [] (stem 2 310 ++ stem 3 310)
    ∷ turn_case (turn_call wood plan_a start_of_a 9 [] 128) Spent 9 (state_at (3 ∷ [])) (stem 2 310 ++ stem 3 310)
    ∷ (running wood plan_a 9, ran (some (in_year 2026 (record { branch = 0; upper = []; place = 3 }))) (stem 2 310 ++ stem 3 310))
    -- output of one row, quantum 10: full after 7 steps
    ∷ turn_case (turn_call wood plan_a start_of_a 10 [] 2) Full 7 (state_at (2 ∷ 5 ∷ [])) (stem 2 310)
    -- states with places 0,2 and 3 alone are accepted; 0,3 and 4 alone are refused by 10
    ∷ turn_case (turn_call wood plan_a (state_at (0 ∷ 2 ∷ [])) 1 [] 128) Spent 1 (state_at (1 ∷ [])) []
    ∷ turn_case (turn_call wood plan_a (state_at (3 ∷ [])) 1 [] 128) Done 1 [] []
    ∷ not_turned (turn_call wood plan_a (state_at (0 ∷ 3 ∷ [])) 1 [] 128) 10
    ∷ not_turned (turn_call wood plan_a (state_at (4 ∷ [])) 1 [] 128) 10
    -- A as two equal branches: four rows, 20 steps
    ∷ whole plan_twice 20 (stem 2 310 ++ (stem 3 310 ++ (stem 2 310 ++ stem 3 310)))
    -- ending top 1, ?1 falling: n2 i310
    ∷ whole plan_top 10 (stem 2 310)
    -- condition "true", group of no variable measuring ?1: rows 3, numbers 3, sum 665, least i45, greatest i310
    ∷ whole plan_group 10 three_stems
    -- no rows in the tables: done after 1 step
    ∷ turn_case (turn_call no_rows plan_a start_of_nothing 100 [] 128) Done 1 [] []
    -- that group, and no rows in the tables: done after 1 step, with the record of no rows; by one variable there is none
    ∷ turn_case (turn_call no_rows plan_group start_of_nothing 1 [] 8) Done 1 [] no_rows_record
    ∷ turn_case (turn_call no_rows (plan_with always groups0) start_of_nothing 1 [] 9) Done 1 [] []
    -- a condition false on every row, cut at 9: the first list is empty, the last the record of no rows; merged, one record
    ∷ turn_case (turn_call wood (plan_with at_least1000 group1) start_of_a 9 [] 8) Spent 9 (state_at (3 ∷ [])) []
    ∷ turn_case (turn_call wood (plan_with at_least1000 group1) (state_at (3 ∷ [])) 9 [] 8) Done 1 [] no_rows_record
    ∷ merges (plan_with at_least1000 group1) [] no_rows_record no_rows_record
    -- condition "true", cut at 9: the first list is the record of the three stems, the last that of no rows; merged, the first
    ∷ turn_case (turn_call wood plan_group start_of_a 9 [] 8) Spent 9 (state_at (3 ∷ [])) three_stems
    ∷ turn_case (turn_call wood plan_group (state_at (3 ∷ [])) 9 [] 8) Done 1 [] no_rows_record
    ∷ merges plan_group three_stems no_rows_record three_stems
    -- a record of rows 0 with a key is refused by 12, kept or of a turn
    ∷ not_merged (merge_call (plan_with always groups0) (name 1 ∷ no_rows_record) 16 []) 12
    ∷ not_merged (merge_call (plan_with always groups0) [] 16 (name 1 ∷ no_rows_record)) 12
    -- not(n1 < i5) keeps nothing; or(i1 = i1, n1 < i5) keeps all
    ∷ whole (plan_with not_error rows01) 10 []
    ∷ whole (plan_with or_error rows01) 10 (stem 1 45 ++ (stem 2 310 ++ stem 3 310))
    -- a list ending 3 3 is refused by 4
    ∷ not_turned (turn_call (with_osp (0 ∷ 2 ∷ 4 ∷ 1 ∷ 3 ∷ 3 ∷ [])) plan_a start_of_a 10 [] 128) 4
    -- k = 0: an output of nine rows is refused by 7; ten are enough
    ∷ not_turned (turn_call wood unnumbered start_of_a 100 [] 18) 7
    ∷ turn_case (turn_call wood unnumbered start_of_a 100 [] 20) Done 10 [] (stem 2 310 ++ (stem 3 310 ++ stem 1 45))
    -- merging with k = 0: eleven kept rows are refused by 12, as are eleven of a turn; ten are merged; ten kept and one more leave ten
    ∷ not_merged (merge_call unnumbered_diameters (ten_diameters ++ (number 10 ∷ [])) 16 []) 12
    ∷ not_merged (merge_call unnumbered_diameters [] 16 (ten_diameters ++ (number 10 ∷ []))) 12
    ∷ merges unnumbered_diameters ten_diameters [] ten_diameters
    ∷ merges unnumbered_diameters [] ten_diameters ten_diameters
    ∷ merges unnumbered_diameters ten_diameters (number 30 ∷ []) (number 30 ∷ take 9 ten_diameters)
    ∷ merges unnumbered_diameters ten_diameters (number 10 ∷ []) ten_diameters
    -- i-3 < i2 keeps all; i2 < i-3 keeps nothing, and its negation all
    ∷ whole (plan_with (less_words minus3 (number 2)) rows01) 10 (stem 1 45 ++ (stem 2 310 ++ stem 3 310))
    ∷ whole (plan_with (less_words (number 2) minus3) rows01) 10 []
    ∷ whole (plan_with (word not_kind 0 ∷ less_words (number 2) minus3) rows01) 10 (stem 1 45 ++ (stem 2 310 ++ stem 3 310))
    -- keys i-1, i0, i1 rising; the tables have i0, i1, i-1, and a list by value is refused by 4
    ∷ turn_case (turn_call (diameters_are (number 0) (number 1) minus1) (plan_with always (top_rising 3)) start_of_a 100 [] 128) Done 10 []
    (name 3 ∷ minus1 ∷ (stem 1 0 ++ stem 2 1))
    ∷ not_turned (turn_call (diameters_are minus1 (number 0) (number 1)) plan_a start_of_a 100 [] 128) 4
    -- i4, i-5 and a text measured: the least is i-5, the greatest i4, and the sum -1
    ∷ turn_case (turn_call (diameters_are (number 4) minus5 (text 0)) plan_group start_of_a 100 [] 8) Done 10 []
    (3 ∷ 0 ∷ 2 ∷ 0 ∷ 0xFFFFFFFF ∷ 0xFFFFFFFF ∷ minus5 ∷ number 4 ∷ [])
    -- a kept sum of 2^63 - 1: with i1 it is refused by 13, with i-1 it is merged; one of -2^63 with i-1 is refused by 13
    ∷ not_merged (merge_call plan_group (one_summed 0xFFFFFFFF 0x7FFFFFFF (number 1)) 16 (one_summed 1 0 (number 1))) 13
    ∷ merges plan_group (one_summed 0xFFFFFFFF 0x7FFFFFFF (number 1)) (one_summed 0xFFFFFFFF 0xFFFFFFFF minus1)
    (2 ∷ 0 ∷ 2 ∷ 0 ∷ 0xFFFFFFFE ∷ 0x7FFFFFFF ∷ minus1 ∷ number 1 ∷ [])
    ∷ not_merged (merge_call plan_group (one_summed 0 0x80000000 minus1) 16 (one_summed 0xFFFFFFFF 0xFFFFFFFF minus1)) 13
    ∷ []
