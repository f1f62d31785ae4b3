-- Fairness with progress: in a queue that calls over one survey made of an empty one, whoever is at the front can be served, so that the turns
-- before an owner's can be had. Assumes nothing: these are definitions.
use Rattle.std.specs.Prelude.{ℕ, zero, suc, ◌+◌, ◌≤◌, ◌≡◌, true, List, [], ◌∷◌, ◌++◌, length, replicate}
use Rattle.sequences.specs.Sequences.{all, distinct}
use Rattle.calls.specs.Calls.{NotRefused}
use Rattle.plans.specs.Plans.{plan_of}
use Rattle.steps.specs.Saved.{least_state_words}
use Rattle.lists.specs.Gathering.{least_output}
use Rattle.turns.specs.Surveys.{Survey}
use Rattle.turns.specs.Turns.{most_steps}
use Rattle.cuts.specs.Accepting.{Accepted, Passed}
use Rattle.queries.specs.Playing.{InLimits}
use Rattle.queues.specs.declared.Entry.{Entry}
use Rattle.queues.specs.Lists.{entry_plan, has_steps, has_none, owners_in, Queue}
use Rattle.queues.specs.Serving.{Serving, entry_turn, serve_schema, serve_of}
use Rattle.queues.specs.Calls.{serve, MadeCall, lent_to, after_call, after_calls, deeds, turns_in}

-- a queue that calls over one survey, refused ones among them, made of an empty one
pub record ReachedQueue (v : Survey) (q : Queue) : Type 0 where
  pub made : List MadeCall
  pub from_none : after_calls v (record { line = []; aside = [] }) made ≡ q

-- ---- what such a queue is
-- an entry's plan is accepted; its state is one that the uncut run over this survey passes through, in an array with room for any
pub record EntryRight (v : Survey) (e : Entry) : Type 0 where
  pub accepted : Accepted v.tables (entry_plan e)
  pub passed : (s : Serving) (quantum : ℕ) → Passed (entry_turn v s e quantum)
  pub room : least_state_words ≤ length e.state

abbrev pub EachRight : Survey → List Entry → Type 0
EachRight v [] = Unit {0}
EachRight v (e ∷ es) = EntryRight v e × EachRight v es

-- who waits has steps, who is set aside has none, no owner has two entries, and there are at most 32
pub record QueueRight (v : Survey) (q : Queue) : Type 0 where
  pub line : EachRight v q.line
  pub aside : EachRight v q.aside
  pub steps : all has_steps q.line ≡ true
  pub no_steps : all has_none q.aside ≡ true
  pub once : distinct (owners_in q.line ++ owners_in q.aside) ≡ true
  pub few : length q.line + length q.aside ≤ 32

-- ---- a serve for whoever is at the front
-- somebody is; the quantum is from 1 to 1,000,000 and the output has the words that this entry's plan needs; no threshold; buffers of 32 entries or more
pub record ForFront (q : Queue) (m : MadeCall) (s : Serving) : Type 0 where
  pub front : Entry
  pub behind : List Entry
  pub stands : q.line ≡ front ∷ behind
  pub limits : InLimits (entry_plan front) s.quantum (length s.output)
  pub unsent : s.threshold ≡ []
  pub line_room : 32 ≤ length (q.line ++ m.behind_line)
  pub aside_room : 32 ≤ length (q.aside ++ m.behind_aside)

-- one with a quantum and the least output, in buffers with some entries behind both lists
abbrev pub least_for_front : List Entry → ℕ
least_for_front [] = 0
least_for_front (e ∷ es) = least_output (plan_of (entry_plan e)).ending

abbrev pub least_serve : ℕ → Queue → Serving
least_serve quantum q = record { quantum = quantum; threshold = []; output = replicate (least_for_front q.line) 0 }

abbrev pub least_call : ℕ → List Entry → Queue → MadeCall
least_call quantum behind q = record { call = serve (least_serve quantum q); behind_line = behind; behind_aside = behind }

-- a number of these, one after the other
unfoldable pub least_calls : Survey → ℕ → List Entry → ℕ → Queue → List MadeCall
least_calls v quantum behind zero q = []
least_calls v quantum behind (suc n) q =
    least_call quantum behind q ∷ least_calls v quantum behind n (after_call v q (lent_to q (least_call quantum behind q)) (serve (least_serve quantum q)))

-- ---- what is promised to an owner at place p of the line
pub record ServedInTurn (v : Survey) (q : Queue) (owner p : ℕ) : Type 0 where
  -- whatever is called meanwhile, a serve for the front is not refused
  pub had : (ms : List MadeCall) (m : MadeCall) (s : Serving) → ForFront (after_calls v q ms) m s
      → NotRefused (serve_schema v (lent_to (after_calls v q ms) m)) s
  -- and after p turns it is the owner's
  pub its : (ms : List MadeCall) → turns_in (deeds v q ms) ≡ p → (m : MadeCall) (s : Serving) → ForFront (after_calls v q ms) m s
      → (serve_of v (lent_to (after_calls v q ms) m) s).answer.owner ≡ owner
  -- such serves are there: p of them, one after the other, are p turns, and there is one more
  pub in_a_row : (quantum : ℕ) → 1 ≤ quantum → quantum ≤ most_steps → (behind : List Entry) → 32 ≤ length behind
      → (turns_in (deeds v q (least_calls v quantum behind p q)) ≡ p)
      × ForFront (after_calls v q (least_calls v quantum behind p q))
      (least_call quantum behind (after_calls v q (least_calls v quantum behind p q)))
      (least_serve quantum (after_calls v q (least_calls v quantum behind p q)))
