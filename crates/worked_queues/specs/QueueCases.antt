-- Calls on a queue and what they leave in one type, and short forms of lists and entries, so that worked cases form tables. No constant of the
-- definitions stands in these forms.
use Rattle.std.specs.Prelude.{ℕ, ◌+◌, ◌-◌, List, [], ◌∷◌, ◌++◌, map, length, replicate}
use Rattle.sequences.specs.Sequences.{over, numbers}
use Rattle.turns.specs.Surveys.{Survey}
use Rattle.turns.specs.declared.TurnEnding.{TurnEnding}
use Rattle.turns.specs.declared.TurnEnding.TheVariants as ending
use Rattle.queues.specs.declared.Entry.{Entry}
use Rattle.queues.specs.declared.Queued.TheVariants.{Lists, Refused}
use Rattle.queues.specs.Lists.{LentLists}
use Rattle.queues.specs.Changing.{QueuedResult}
use Rattle.queues.specs.Joining.{Joining, join_queue_of}
use Rattle.queues.specs.ToppingUp.{top_up_of}
use Rattle.queues.specs.Serving.{Serving, ServeResult, serve_of}
use Rattle.worked_cases.specs.Literals.{ending0, all_diameters, at_place}

-- ---- the three calls
pub data QueueRequest : Type 0 where
  joining : Survey → LentLists → Joining → QueueRequest
  serving : Survey → LentLists → Serving → QueueRequest
  topping : LentLists → ℕ → ℕ → QueueRequest

pub data QueueOutcome : Type 0 where
  queued : QueuedResult → QueueOutcome
  served : ServeResult → QueueOutcome

abbrev pub queue_outcome : QueueRequest → QueueOutcome
queue_outcome (joining v l j) = queued (join_queue_of v l j)
queue_outcome (serving v l s) = served (serve_of v l s)
queue_outcome (topping l owner amount) = queued (top_up_of l owner amount)

abbrev pub QueueCase : Type 0
QueueCase = QueueRequest × QueueOutcome

-- ---- entries: rows ?0 of ?0 n12 ?1 over survey 7, whose start is place 3
abbrev pub stems_query : List ℕ
stems_query = all_diameters ending0

-- at the start, and after one step, two and three
abbrev pub at_start : List ℕ
at_start = at_place 0xF0000003

abbrev pub at_second : List ℕ
at_second = at_place 0xF0000004

abbrev pub at_third : List ℕ
at_third = at_place 0xF0000005

-- an entry in the list that its owner's steps say, with 5 past its plan and 7 past its state. Its plan's array is as short as it may be
abbrev pub entry_holding : List ℕ → List ℕ → ℕ → ℕ → Entry
entry_holding plan state owner steps =
    record {
      allowance = steps;
      owner = owner;
      planned = length plan;
      saved = length state;
      plan = plan ++ (5 ∷ []);
      state = over state (replicate 11 7);
    }

abbrev pub waits : ℕ → ℕ → Entry
waits owner steps = entry_holding stems_query at_start owner steps

-- `count` owners from the number `first` on, with `steps` steps each
abbrev pub crowd : ℕ → ℕ → ℕ → List Entry
crowd first count steps = map (λ (n : ℕ). waits (first + n) steps) (numbers count)

-- what stands in a buffer past a list: one more entry of owner 1 with steps, which would be a fault of both lists
abbrev pub leftover : Entry
leftover = record { allowance = 9; owner = 1; planned = 3; saved = 2; plan = 5 ∷ []; state = 6 ∷ [] }

abbrev pub in_buffer : ℕ → List Entry → List Entry
in_buffer room es = es ++ replicate (room - length es) leftover

-- both lists in buffers of `m` and of `n` entries; of 32
abbrev pub in_buffers : ℕ → ℕ → List Entry → List Entry → LentLists
in_buffers m n line aside = record { line = in_buffer m line; waiting = length line; aside = in_buffer n aside; resting = length aside }

abbrev pub both_lists : List Entry → List Entry → LentLists
both_lists line aside = in_buffers 32 32 line aside

-- ---- joining and topping up
abbrev pub joins_with : ℕ → ℕ → List ℕ → List ℕ → Joining
joins_with owner steps plan state = record { owner = owner; allowance = steps; plan = plan; state = state }

abbrev pub newcomer : ℕ → ℕ → Joining
newcomer owner steps = joins_with owner steps stems_query at_start

-- its entry: plan and state, and 0 in the rest of 256 words and of 11
abbrev pub arrived : ℕ → ℕ → Entry
arrived owner steps =
    record { allowance = steps; owner = owner; planned = 8; saved = 4; plan = stems_query ++ replicate 248 0; state = at_start ++ replicate 7 0 }

-- both lists counted, in buffers of 32 that hold these entries first
abbrev pub leaves_lists : ℕ → List Entry → ℕ → List Entry → QueueOutcome
leaves_lists n line m aside = queued (record { answer = Lists n m; buffers = record { line = in_buffer 32 line; aside = in_buffer 32 aside } })

-- refused by a number, with both lists as they were
abbrev pub as_lent : LentLists → ℕ → QueuedResult
as_lent l x = record { answer = Refused x; buffers = record { line = l.line; aside = l.aside } }

abbrev pub not_joined : Survey → LentLists → Joining → ℕ → QueueCase
not_joined v l j x = (joining v l j, queued (as_lent l x))

abbrev pub not_topped_up : LentLists → ℕ → ℕ → ℕ → QueueCase
not_topped_up l owner amount x = (topping l owner amount, queued (as_lent l x))

-- ---- serving with a quantum, and an output of `room` words that hold 9
abbrev pub plainly : ℕ → ℕ → Serving
plainly quantum room = record { quantum = quantum; threshold = []; output = replicate room 9 }

-- a turn of an owner: its ending, its steps, the words of its state and those of its list, the steps left; then both lists and the output
abbrev pub leaves_served : ℕ → TurnEnding → ℕ → ℕ → ℕ → ℕ → ℕ → List Entry → ℕ → List Entry → List ℕ → QueueOutcome
leaves_served owner e steps saved listed left n line m aside output =
    served (record {
      answer = record {
        turned = record { steps = steps; ending = e; saved = saved; listed = listed };
        owner = owner;
        left = left;
        waiting = n;
        resting = m;
      };
      buffers = record { line = in_buffer 32 line; aside = in_buffer 32 aside; output = output };
    })

abbrev pub not_serving : Survey → LentLists → Serving → ℕ → QueueCase
not_serving v l s x = (
  serving v l s,
  served (record {
    answer = record {
      turned = record { steps = 0; ending = ending.Refused x; saved = 0; listed = 0 };
      owner = 0;
      left = 0;
      waiting = 0;
      resting = 0;
    };
    buffers = record { line = l.line; aside = l.aside; output = s.output };
  }),
)
