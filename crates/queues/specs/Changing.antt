-- Calls that change both lists: what they answer, and both buffers at exit. Assumes nothing: these are definitions.
use Rattle.std.specs.Prelude.{ℕ, List, length}
use Rattle.words.specs.Tests.{Test}
use Rattle.calls.specs.Calls.{CallSchema, CallResult}
use Rattle.queues.specs.declared.Entry.{Entry}
use Rattle.queues.specs.declared.Queued.{Queued}
use Rattle.queues.specs.declared.Queued.TheVariants.{Lists, Refused}
use Rattle.queues.specs.Lists.{LentLists, Queue, entries_over}

-- the buffers of both lists
pub record QueueBuffers : Type 0 where
  pub line : List Entry
  pub aside : List Entry

abbrev pub QueuedResult : Type 0
QueuedResult = CallResult Queued QueueBuffers

-- both lists counted, and over the first entries of their buffers
abbrev pub lists_with : LentLists → Queue → QueuedResult
lists_with l q =
    record {
      answer = Lists (length q.line) (length q.aside);
      buffers = record { line = entries_over q.line l.line; aside = entries_over q.aside l.aside };
    }

-- ---- the number and the values of an answer
-- the number of the test that refused the call, 0 where it was served
abbrev pub refusal_by : Queued → ℕ
refusal_by (Lists n m) = 0
refusal_by (Refused x) = x

-- the entries of the line and of the list set aside: none are counted by a refusal
pub record EntryCounts : Type 0 where
  pub waiting : ℕ
  pub resting : ℕ

abbrev pub no_entries : EntryCounts
no_entries = record { waiting = 0; resting = 0 }

abbrev pub entry_counts : Queued → EntryCounts
entry_counts (Lists n m) = record { waiting = n; resting = m }
entry_counts (Refused x) = no_entries

-- ---- a call on both lists, by its tests and their numbers, and the lists that it leaves
abbrev pub changes_lists : {I : Type 0} → LentLists → (I → List Test) → List ℕ → (I → Queue)
    → CallSchema I Queued Queued QueueBuffers EntryCounts
changes_lists l tests numbers after =
    record {
      tests = tests;
      numbers = λ i. numbers;
      lent = λ i. record { line = l.line; aside = l.aside };
      refuses = Refused;
      serves = λ i. (lists_with l (after i)).answer;
      leaves = λ i. (lists_with l (after i)).buffers;
      counts = λ i. record { waiting = length (after i).line; resting = length (after i).aside };
      says = λ a. a;
      refusal = Refused;
      tells = refusal_by;
      counted = entry_counts;
      nothing = no_entries;
    }
