-- Joining: its tests in order, its answer, and both lists at exit. Assumes nothing: these are definitions.
use Rattle.std.specs.Prelude.{ℕ, Bool, cond, ◌&&◌, not, List, [], ◌∷◌, ◌++◌, length, eqb}
use Rattle.sequences.specs.Sequences.{member}
use Rattle.words.specs.Tests.{Test}
use Rattle.calls.specs.Calls.{CallSchema, result_of_call}
use Rattle.tables.specs.Tables.{table_tests}
use Rattle.plans.specs.Plans.{plan_of, plan_tests}
use Rattle.steps.specs.Saved.{shape_right, survey_right, places_right}
use Rattle.turns.specs.Surveys.{Survey}
use Rattle.queues.specs.declared.Entry.{Entry}
use Rattle.queues.specs.declared.Queued.{Queued}
use Rattle.queues.specs.Lists.{LentLists, line_of, aside_of, Queue, entry_plan_room, entry_state_room, filled, owners, entries_right, space_right}
use Rattle.queues.specs.Changing.{QueueBuffers, QueuedResult, EntryCounts, changes_lists}

-- who joins, with how many steps, which plan and which state
pub record Joining : Type 0 where
  pub owner : ℕ
  pub allowance : ℕ
  pub plan : List ℕ
  pub state : List ℕ

-- 1, 2, 23, 3 and 4 of the tables; 5, 6, 23, 9, 22 and 10 on the plan and the state that join; then 17 and 18 of both lists with the joining entry
abbrev pub join_tests_by : Survey → List ℕ → List ℕ → Bool → Bool → List Test
join_tests_by v plan state entries room =
    table_tests v.tables
    ++ (plan_tests plan
    ++ ((9, shape_right v.tables (plan_of plan) state)
    ∷ (22, survey_right v.number state)
    ∷ (10, places_right v.tables (plan_of plan) state)
    ∷ (17, entries)
    ∷ (18, room)
    ∷ []))

abbrev pub join_tests : Survey → LentLists → Joining → List Test
join_tests v l j = join_tests_by v j.plan j.state (entries_right l && not (member j.owner (owners l))) (space_right 1 l)

abbrev pub new_entry : Joining → Entry
new_entry j =
    record {
      allowance = j.allowance;
      owner = j.owner;
      planned = length j.plan;
      saved = length j.state;
      plan = filled entry_plan_room j.plan;
      state = filled entry_state_room j.state;
    }

-- `e` goes to the end of the line, or to the end of the list set aside if it has no steps
abbrev pub admitted : LentLists → Entry → Queue
admitted l e =
    cond (eqb e.allowance 0)
    (record { line = line_of l; aside = aside_of l ++ (e ∷ []) })
    (record { line = line_of l ++ (e ∷ []); aside = aside_of l })

-- ---- the call
abbrev pub join_schema : Survey → LentLists → CallSchema Joining Queued Queued QueueBuffers EntryCounts
join_schema v l =
    changes_lists l (join_tests v l) (1 ∷ 2 ∷ 23 ∷ 3 ∷ 4 ∷ 5 ∷ 6 ∷ 23 ∷ 9 ∷ 22 ∷ 10 ∷ 17 ∷ 18 ∷ []) (λ j. admitted l (new_entry j))

abbrev pub join_queue_of : Survey → LentLists → Joining → QueuedResult
join_queue_of v l = result_of_call (join_schema v l)
