-- Calls and their results in one type, so that worked cases form a table.
use Rattle.std.specs.Prelude.{ℕ, ◌≡◌, List, [], ◌∷◌, length, replicate}
use Rattle.std.proofs.Math.Option.{Option}
use Rattle.words.specs.declared.Written.TheVariants.{Refused}
use Rattle.sequences.specs.Sequences.{over}
use Rattle.words.specs.Tests.{first_failing}
use Rattle.tables.specs.Tables.{Tables}
use Rattle.plans.specs.Plans.{plan_of}
use Rattle.steps.specs.Steps.{State, after}
use Rattle.turns.specs.declared.TurnEnding.{TurnEnding}
use Rattle.turns.specs.declared.TurnEnding.TheVariants as ending
use Rattle.turns.specs.Surveys.{Survey, under_number}
use Rattle.turns.specs.Opening.{open_of}
use Rattle.turns.specs.Turns.{TurnInput, TurnResult, turn_tests, turn_of, result_of}
use Rattle.calls.specs.Words.{WordsResult}
use Rattle.register_reports.specs.Reporting.{ReportInput, report_of}
use Rattle.merges.specs.Merging.{MergeInput, merge_of}
use Rattle.cuts.specs.Uncut.{run_list}
use Rattle.uploads.specs.declared.Made.TheVariants as answer
use Rattle.uploads.specs.Making.{MakeInput, MakeResult, make_of}
use Rattle.table_answers.specs.declared.TablesWritten.TheVariants as tables
use Rattle.table_answers.specs.Writing.{TablesResult}
use Rattle.views.specs.Viewing.{ViewInput, view_call_of}

-- the six calls; the uncut run after n steps, with its list; and the tests of a turn alone, for a turn too long to compute
pub data Call : Type 0 where
  opening : Survey → List ℕ → List ℕ → Call
  turning : TurnInput → Call
  merging : MergeInput → Call
  reporting : ReportInput → Call
  making : MakeInput → Call
  viewing : ViewInput → Call
  running : Tables → List ℕ → ℕ → Call
  testing : TurnInput → Call

pub data Result : Type 0 where
  opened : WordsResult → Result
  turned : TurnResult → Result
  merged : WordsResult → Result
  reported : WordsResult → Result
  made : MakeResult → Result
  viewed : TablesResult → Result
  ran : Option State → List ℕ → Result
  -- the number of the first test that fails, none where all pass
  tested : Option ℕ → Result

abbrev pub result_for : Call → Result
result_for (opening v plan state) = opened (open_of v plan state)
result_for (turning i) = turned (turn_of i)
result_for (merging i) = merged (merge_of i)
result_for (reporting i) = reported (report_of i)
result_for (making i) = made (make_of i)
result_for (viewing i) = viewed (view_call_of i)
result_for (running t plan n) =
    ran (after t (plan_of plan) n).state (run_list (plan_of plan).ending (after t (plan_of plan) n))
result_for (testing i) = tested (first_failing (turn_tests i))

abbrev pub Case : Type 0
Case = Call × Result

infixr 20 ◌&◌
-- every case of a table holds
pub data Hold : List Case → Type 0 where
  all : Hold []
  ◌&◌ : {c : Case} {cs : List Case} → result_for c.0 ≡ c.1 → Hold cs → Hold (c ∷ cs)

-- ---- short forms. Tables stand under number 7. Buffers hold other words before the call: 7 in a state, 9 in an output, 4 in a kept list
abbrev pub surveyed : Tables → Survey
surveyed t = under_number 7 t

abbrev pub state_buffer : List ℕ → List ℕ
state_buffer ws = over ws (replicate 11 7)

abbrev pub kept_buffer : ℕ → List ℕ → List ℕ
kept_buffer room ws = over ws (replicate room 4)

-- a turn from `state`, with a quantum, a threshold and an output of `room` words
abbrev pub turn_under : Survey → List ℕ → List ℕ → ℕ → List ℕ → ℕ → TurnInput
turn_under v plan state quantum threshold room =
    record {
      survey = v;
      plan = plan;
      state = state_buffer state;
      given = length state;
      quantum = quantum;
      threshold = threshold;
      output = replicate room 9;
    }

abbrev pub turn_call : Tables → List ℕ → List ℕ → ℕ → List ℕ → ℕ → TurnInput
turn_call t plan state quantum threshold room = turn_under (surveyed t) plan state quantum threshold room

abbrev pub merge_call : List ℕ → List ℕ → ℕ → List ℕ → MergeInput
merge_call plan kept room list = record { plan = plan; kept = kept_buffer room kept; given = length kept; list = list }

-- the case of a turn: its ending, its steps, its new state and its list
abbrev pub turn_case : TurnInput → TurnEnding → ℕ → List ℕ → List ℕ → Case
turn_case i e steps saved list = (turning i, turned (result_of i e steps saved list))

-- the cases of refused calls
abbrev pub not_opened : Tables → List ℕ → List ℕ → ℕ → Case
not_opened t plan state x = (opening (surveyed t) plan state, opened (record { answer = Refused x; buffers = state }))

abbrev pub not_turned : TurnInput → ℕ → Case
not_turned i x = turn_case i (ending.Refused x) 0 [] []

abbrev pub not_merged : MergeInput → ℕ → Case
not_merged i x = (merging i, merged (record { answer = Refused x; buffers = i.kept }))

abbrev pub not_reported : ReportInput → ℕ → Case
not_reported i x = (reporting i, reported (record { answer = Refused x; buffers = i.report }))

abbrev pub not_made : MakeInput → ℕ → Case
not_made i x = (making i, made (record { answer = answer.Refused x; buffers = i.buffers }))

abbrev pub not_viewed : ViewInput → ℕ → Case
not_viewed i x = (viewing i, viewed (record { answer = tables.Refused x; buffers = i.buffers }))
