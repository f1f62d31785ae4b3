-- Cases for each refusal from 1 to 14, beside calls that just pass; and the order of the tests.
use Rattle.std.specs.Prelude.{ℕ, List, [], ◌∷◌, ◌++◌, replicate, set}
use Rattle.words.specs.declared.Written.TheVariants.{Words}
use Rattle.words.specs.Words.{name, number, text, variable, unbound, word, survey_word, year_word, position_word, place_word, head_kind, branch_kind, true_kind}
use Rattle.words.specs.Words.{not_kind, comparison_kind, at_least, rows_kind, top_kind, falling_kind, group_kind, place_kind}
use Rattle.sequences.specs.Sequences.{over}
use Rattle.turns.specs.declared.TurnEnding.TheVariants.{Done}
use Rattle.worked_cases.specs.Wood.{i2026, wood, with_rows, with_osp, always, rows01, top_falling, plan_with, plan_a}
use Rattle.worked_cases.specs.Wood.{plan_top, plan_group, state_at, start_of_a, stem}
use Rattle.worked_cases.specs.Calls.{opening, opened, merging, merged, Case, surveyed, state_buffer, kept_buffer, turn_call, merge_call, turn_case}
use Rattle.worked_cases.specs.Calls.{not_opened, not_turned, not_merged}

-- ---- the tables, 1 to 4; 23, and lengths that are no multiple of 4, in worked_limits, YearLimits
abbrev pub of_tables : List Case
of_tables =
    not_opened (with_rows (i2026 ∷ name 1 ∷ name 2 ∷ [])) plan_a (replicate 11 7) 1
    ∷ not_opened (record { rows = wood.rows; pos = 0 ∷ []; osp = wood.osp }) plan_a (replicate 11 7) 1
    ∷ not_opened (with_osp (0 ∷ 2 ∷ 4 ∷ 1 ∷ 3 ∷ 5 ∷ 5 ∷ [])) plan_a (replicate 11 7) 1
    -- a number as predicate; unbound as object; and a wrong kind in the last row comes before the order of the first
    ∷ not_opened (with_rows (set wood.rows 2 (number 3))) plan_a (replicate 11 7) 2
    ∷ not_opened (with_rows (set wood.rows 3 unbound)) plan_a (replicate 11 7) 2
    ∷ not_opened (with_rows (set (set wood.rows 1 (name 9)) 21 (text 1))) plan_a (replicate 11 7) 2
    -- rows that descend; two equal rows
    ∷ not_opened (with_rows (set wood.rows 1 (name 2))) plan_a (replicate 11 7) 3
    ∷ not_opened (with_rows (set (set wood.rows 6 (name 10)) 7 (name 100))) plan_a (replicate 11 7) 3
    -- a row that is not there; a list that descends
    ∷ not_opened (with_osp (0 ∷ 2 ∷ 4 ∷ 1 ∷ 3 ∷ 6 ∷ [])) plan_a (replicate 11 7) 4
    ∷ not_opened (with_osp (0 ∷ 2 ∷ 4 ∷ 1 ∷ 5 ∷ 3 ∷ [])) plan_a (replicate 11 7) 4
    ∷ []

-- ---- plans, 5 and 6
-- "true" under seven "not"s
abbrev pub seven : List ℕ
seven = word not_kind 0 ∷ word not_kind 0 ∷ word not_kind 0 ∷ word not_kind 0 ∷ word not_kind 0 ∷ word not_kind 0 ∷ word not_kind 0 ∷ always

abbrev pub wrong_plan : List ℕ → ℕ → Case
wrong_plan plan x = not_opened wood plan (replicate 11 7) x

abbrev pub of_plans : List Case
of_plans =
    wrong_plan [] 5
    ∷ wrong_plan (word head_kind 0 ∷ []) 5
    ∷ wrong_plan (plan_a ++ (0 ∷ [])) 5
    ∷ wrong_plan (plan_with (word true_kind 1 ∷ []) rows01) 5
    ∷ wrong_plan (plan_with (word comparison_kind 6 ∷ variable 1 ∷ number 70 ∷ []) rows01) 5
    ∷ wrong_plan (plan_with (word comparison_kind 0 ∷ variable 1 ∷ []) []) 5
    -- 8 deep passes, 9 deep does not
    ∷ (opening (surveyed wood) (plan_with seven rows01) (replicate 11 7), opened (record { answer = Words 4; buffers = state_buffer start_of_a }))
    ∷ wrong_plan (plan_with (word not_kind 0 ∷ seven) rows01) 5
    ∷ wrong_plan (plan_with always (top_falling 65)) 5
    ∷ wrong_plan (plan_with always (word top_kind 1 ∷ rows01)) 5
    ∷ wrong_plan (plan_with always (word rows_kind 2 ∷ variable 0 ∷ name 1 ∷ [])) 5
    -- ?16 in the first branch, and a word left over
    ∷ wrong_plan (word head_kind 1 ∷ word branch_kind 1 ∷ variable 16 ∷ name 10 ∷ name 100
    ∷ (always ++ (word rows_kind 1 ∷ variable 0 ∷ 0 ∷ []))) 5
    ∷ wrong_plan (word head_kind 1 ∷ word branch_kind 1 ∷ variable 16 ∷ name 10 ∷ variable 0 ∷ (always ++ (word rows_kind 1 ∷ variable 0 ∷ []))) 6
    ∷ wrong_plan (plan_with (word comparison_kind at_least ∷ variable 3 ∷ number 70 ∷ []) rows01) 6
    ∷ wrong_plan (plan_with always (word rows_kind 1 ∷ variable 2 ∷ [])) 6
    ∷ wrong_plan (plan_with always (word rows_kind 2 ∷ variable 1 ∷ variable 1 ∷ [])) 6
    ∷ wrong_plan (plan_with always (word top_kind 1 ∷ (rows01 ++ (word falling_kind 2 ∷ [])))) 6
    ∷ wrong_plan (plan_with always (word group_kind 2 ∷ variable 0 ∷ variable 0 ∷ variable 1 ∷ [])) 6
    ∷ []

-- ---- buffers, quantum, state and threshold, 7 to 11
abbrev pub of_turns : List Case
of_turns =
    not_opened wood plan_a (replicate 10 7) 7
    ∷ not_turned (turn_call wood plan_a start_of_a 10 [] 1) 7
    ∷ not_turned (turn_call wood plan_top start_of_a 10 [] 1) 7
    ∷ not_turned (turn_call wood plan_group start_of_a 10 [] 7) 7
    ∷ not_turned
    (record {
      survey = surveyed wood;
      plan = plan_a;
      state = over start_of_a (replicate 10 7);
      given = 4;
      quantum = 0;
      threshold = [];
      output =
          replicate 2 9;
    }) 7
    ∷ not_turned (turn_call wood plan_a start_of_a 0 [] 2) 8
    ∷ not_turned (turn_call wood plan_a start_of_a 1000001 [] 2) 8
    -- no words; a depth above the patterns; a branch that is not there; a place too few; a wrong kind; more words than the buffer has
    ∷ not_turned (turn_call wood plan_a [] 5 [] 2) 9
    ∷ not_turned (turn_call wood plan_a (state_at (0 ∷ 2 ∷ 3 ∷ [])) 5 [] 2) 9
    ∷ not_turned (turn_call wood plan_a (survey_word 7 ∷ year_word 2026 ∷ position_word 1 1 ∷ place_word 0 ∷ []) 5 [] 2) 9
    ∷ not_turned (turn_call wood plan_a (survey_word 7 ∷ year_word 2026 ∷ position_word 0 2 ∷ place_word 0 ∷ []) 5 [] 2) 9
    ∷ not_turned (turn_call wood plan_a (survey_word 7 ∷ year_word 2026 ∷ word place_kind 1 ∷ place_word 0 ∷ []) 5 [] 2) 9
    ∷ not_turned
    (record { survey = surveyed wood; plan = plan_a; state = state_buffer start_of_a; given = 12; quantum = 5; threshold = []; output = replicate 2 9 }) 9
    -- a place below its range; an upper place that is no row of its range
    ∷ not_turned (turn_call wood plan_a (state_at (1 ∷ 2 ∷ [])) 5 [] 2) 10
    ∷ not_turned (turn_call wood plan_a (state_at (3 ∷ 5 ∷ [])) 5 [] 2) 10
    -- a threshold with rows; of one word; with a variable. Unbound may stand in one
    ∷ not_turned (turn_call wood plan_a start_of_a 5 (stem 1 45) 2) 11
    ∷ not_turned (turn_call wood plan_top start_of_a 5 (name 1 ∷ []) 2) 11
    ∷ not_turned (turn_call wood plan_top start_of_a 5 (name 1 ∷ variable 1 ∷ []) 2) 11
    ∷ turn_case (turn_call wood plan_top start_of_a 100 (name 1 ∷ unbound ∷ []) 2) Done 10 [] (stem 2 310)
    -- equal in all keys is not strictly before
    ∷ turn_case (turn_call wood plan_top start_of_a 100 (stem 9 310) 2) Done 10 [] []
    ∷ []

-- ---- merging, 12 to 14
-- a record of no keys
abbrev pub totals : ℕ → ℕ → ℕ → ℕ → ℕ → List ℕ
totals rows numbers sum least greatest = rows ∷ 0 ∷ numbers ∷ 0 ∷ sum ∷ 0 ∷ least ∷ greatest ∷ []

abbrev pub wrong_record : List ℕ → Case
wrong_record list = not_merged (merge_call plan_group [] 8 list) 12

abbrev pub of_merges : List Case
of_merges =
    not_merged (merge_call plan_a [] 8 []) 12
    ∷ not_merged (merge_call plan_top [] 8 (name 1 ∷ [])) 12
    ∷ not_merged (merge_call plan_top [] 8 (name 1 ∷ variable 1 ∷ [])) 12
    ∷ not_merged (merge_call plan_top [] 8 (stem 1 45 ++ stem 2 45)) 12
    ∷ not_merged (merge_call (plan_with always (top_falling 2)) [] 8 (stem 1 45 ++ stem 2 310)) 12
    ∷ not_merged (record { plan = plan_top; kept = replicate 8 4; given = 9; list = [] }) 12
    ∷ wrong_record (totals 0 0 0 (number 0) (number 0))
    ∷ wrong_record (totals 1 2 0 (number 0) (number 0))
    ∷ wrong_record (totals 1 0 1 unbound unbound)
    ∷ wrong_record (totals 1 0 0 (number 0) unbound)
    ∷ wrong_record (totals 1 1 5 (name 5) (number 5))
    ∷ wrong_record (totals 1 1 5 (number 6) (number 5))
    ∷ wrong_record (totals 1 0 0 unbound unbound ++ totals 1 0 0 unbound unbound)
    -- a total past 2^64 - 1 comes before a buffer too short
    ∷ not_merged
    (record {
      plan = plan_group;
      kept = totals 1 1 5 (number 5) (number 5);
      given = 8;
      list = 4294967295 ∷ 4294967295 ∷ 1 ∷ 0 ∷ 5 ∷ 0 ∷ number 5 ∷ number 5 ∷ [];
    })
    13
    ∷ not_merged
    (record {
      plan = plan_with always (word group_kind 1 ∷ variable 0 ∷ variable 1 ∷ []);
      kept = name 1 ∷ totals 1 1 5 (number 5) (number 5);
      given = 9;
      list = (name 1 ∷ 4294967295 ∷ 4294967295 ∷ 1 ∷ 0 ∷ 5 ∷ 0 ∷ number 5 ∷ number 5 ∷ []) ++ (name 2 ∷ totals 1 0 0 unbound unbound);
    })
    13
    ∷ not_merged (merge_call plan_group [] 7 (totals 1 0 0 unbound unbound)) 14
    -- the largest total is no overflow; groups add up; rows and words behind the result stay
    ∷ (
      merging (merge_call plan_group (totals 1 1 45 (number 45) (number 45)) 10 (totals 2 2 620 (number 310) (number 310))),
      merged (record { answer = Words 8; buffers = kept_buffer 10 (totals 3 3 665 (number 45) (number 310)) }),
    )
    ∷ (
      merging
          (record {
            plan = plan_group;
            kept = totals 1 0 0 unbound unbound;
            given = 8;
            list = 4294967294 ∷ 4294967295 ∷ 1 ∷ 0 ∷ 5 ∷ 0 ∷ number 5 ∷ number 5 ∷ [];
          }),
      merged
          (record { answer = Words 8; buffers = 4294967295 ∷ 4294967295 ∷ 1 ∷ 0 ∷ 5 ∷ 0 ∷ number 5 ∷ number 5 ∷ [] }),
    )
    ∷ (
      merging (merge_call (plan_with always (top_falling 2)) (stem 2 310 ++ stem 1 45) 6 (stem 3 310)),
      merged (record { answer = Words 4; buffers = over (stem 2 310 ++ stem 3 310) (kept_buffer 6 (stem 2 310 ++ stem 1 45)) }),
    )
    ∷ []
