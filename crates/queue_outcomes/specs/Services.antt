-- What serving finds and leaves of an entry, in code. Assumes nothing: these are definitions.
use Rattle.std.specs.Prelude.{ℕ, ◌+◌, ◌-◌, ◌≡◌, cond, List, [], ◌∷◌, leb, eqb}
use Rattle.words.specs.Tests.{Test}
use Rattle.turns.specs.declared.TurnEnding.{TurnEnding}
use Rattle.turns.specs.declared.TurnEnding.TheVariants as ending
use Rattle.turns.specs.Surveys.{Survey}
use Rattle.turns.specs.Turns.{TurnResult}
use Rattle.queues.specs.declared.Entry.{Entry}
use Rattle.queues.specs.declared.Service.{Service}
use Rattle.queues.specs.Lists.{LentLists, entry_plan_room}
use Rattle.queues.specs.Serving.{Serving, ServeResult, front_tests, entry_after, refused_answer}
use Rattle.queue_entries.specs.Entries.{nobody}
use Rattle.queue_changes.specs.Changes.{unchanged, appended, removed, rotated, changed, ChangeFits}
use Rattle.queue_outcomes.specs.declared.Ended.{Ended}
use Rattle.queue_outcomes.specs.declared.ServeChanges.{ServeChanges}

-- the words of an entry's plan that are read: none where its count passes the array
abbrev pub planned_in : Entry → ℕ
planned_in e = cond (leb e.planned entry_plan_room) e.planned 0

-- `e` after `steps` steps, with its new state, the first `saved` words of `state`
abbrev pub entry_with : Entry → ℕ → ℕ → List ℕ → Entry
entry_with e steps saved state =
    record { allowance = e.allowance - steps; owner = e.owner; planned = e.planned; saved = saved; plan = e.plan; state = state }

-- a turn of `e` with the result `r` leaves the answer and the entry of `x`, and the output `written`
pub record EndedBy (r : TurnResult) (e : Entry) (x : Ended) (written : List ℕ) : Type 0 where
  pub turned : x.turned ≡ r.answer
  pub entry : x.entry ≡ entry_after e r
  pub output : written ≡ r.buffers.output

-- ---- where an entry goes after its turn, by places
abbrev pub serving_refused : ℕ → ServeChanges
serving_refused x =
    record {
      answer = refused_answer x;
      line = unchanged;
      aside = unchanged;
      entry = nobody;
    }

-- an answer, with `n` entries in the line and `m` set aside
abbrev pub answered_by : Ended → ℕ → ℕ → Service
answered_by x n m = record { turned = x.turned; owner = x.entry.owner; left = x.entry.allowance; waiting = n; resting = m }

-- done, it leaves
abbrev pub dequeued_by : Ended → ℕ → ℕ → ServeChanges
dequeued_by x n m = record { answer = answered_by x (n - 1) m; line = removed 0 n; aside = unchanged; entry = x.entry }

-- unfinished, it goes to the back of the line, or to the end of the list set aside if it has no steps left
abbrev pub requeued_by : Ended → ℕ → ℕ → ServeChanges
requeued_by x n m =
    cond (eqb x.entry.allowance 0)
    (record { answer = answered_by x (n - 1) (m + 1); line = removed 0 n; aside = appended m; entry = x.entry })
    (record { answer = answered_by x n m; line = rotated n; aside = unchanged; entry = x.entry })

abbrev pub turn_outcome_by : TurnEnding → Ended → ℕ → ℕ → ServeChanges
turn_outcome_by ending.Done x n m = dequeued_by x n m
turn_outcome_by ending.Spent x n m = requeued_by x n m
turn_outcome_by ending.Full x n m = requeued_by x n m
turn_outcome_by (ending.Refused y) x n m = serving_refused y

-- ---- a whole call
-- the tests before those of both lists, where `waiting` entries are in the line and `e` is at its front
abbrev pub front_by : Survey → Serving → ℕ → Entry → List Test
front_by v s waiting e = cond (eqb waiting 0) (front_tests v s []) (front_tests v s (e ∷ []))

-- both lists after a decision, and the output
abbrev pub served_by : LentLists → ServeChanges → List ℕ → ServeResult
served_by l d written =
    record {
      answer = d.answer;
      buffers = record {
        line = changed l.line d.line d.entry;
        aside = changed l.aside d.aside d.entry;
        output = written;
      };
    }

-- the decision `d` of serving, with the output `written`, leaves what its definition does
pub record DecidesServing (l : LentLists) (d : ServeChanges) (written : List ℕ) (r : ServeResult) : Type 0 where
  pub line : ChangeFits d.line l.line
  pub aside : ChangeFits d.aside l.aside
  pub result : served_by l d written ≡ r
