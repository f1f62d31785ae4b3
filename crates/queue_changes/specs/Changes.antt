-- How the code changes both lists, by places, and what a decision of it means for the lists that are lent. Assumes nothing: these are
-- definitions.
use Rattle.std.specs.Prelude.{ℕ, ◌+◌, ◌-◌, ◌<◌, ◌≡◌, Bool, true, false, cond, ◌&&◌, List, leb, eqb, length}
use Rattle.queues.specs.declared.Entry.{Entry}
use Rattle.queues.specs.declared.Queued.TheVariants.{Lists, Refused}
use Rattle.queues.specs.Lists.{most_entries, LentLists}
use Rattle.queues.specs.Changing.{QueuedResult}
use Rattle.queue_entries.specs.Entries.{nobody, settled}
use Rattle.queue_changes.specs.declared.Change.{Change}
use Rattle.queue_changes.specs.declared.Queueing.{Queueing}

abbrev pub unchanged : Change
unchanged = record { gap = 0; last = 0; adds = false }

abbrev pub appended : ℕ → Change
appended n = record { gap = n; last = n; adds = true }

abbrev pub removed : ℕ → ℕ → Change
removed g n = record { gap = g; last = n - 1; adds = false }

abbrev pub rotated : ℕ → Change
rotated n = record { gap = 0; last = n - 1; adds = true }

-- test 18, by the lengths of both buffers
abbrev pub room_by : ℕ → ℕ → ℕ → ℕ → ℕ → Bool
room_by room spare given kept more = leb most_entries room && (leb most_entries spare && leb (given + kept + more) most_entries)

-- of `number` and `late`, that of the tests which follow, the one that refuses first
abbrev pub first_number : ℕ → ℕ → ℕ
first_number number late = cond (eqb number 0) late number

-- the list `es` after the change `c`, with the entry `e`
abbrev pub changed : List Entry → Change → Entry → List Entry
changed es c e = settled es c.gap c.last c.adds e

-- the places of a change are in the buffer
abbrev pub ChangeFits : Change → List Entry → Type 0
ChangeFits c es = ((c.gap < c.last) → c.last < length es) × (c.adds ≡ true → c.last < length es)

abbrev pub queueing_refused : ℕ → Queueing
queueing_refused x = record { answer = Refused x; line = unchanged; aside = unchanged; entry = nobody }

-- both lists after a decision
abbrev pub queued_by : LentLists → Queueing → QueuedResult
queued_by l d =
    record {
      answer = d.answer;
      buffers = record { line = changed l.line d.line d.entry; aside = changed l.aside d.aside d.entry };
    }

-- a decision of joining or topping up leaves what the definition of the call does
pub record Decides (l : LentLists) (d : Queueing) (r : QueuedResult) : Type 0 where
  pub line : ChangeFits d.line l.line
  pub aside : ChangeFits d.aside l.aside
  pub result : queued_by l d ≡ r

-- `e` to the end of the line, or of the list set aside if it has no steps
abbrev pub admitted_by : Entry → ℕ → ℕ → Queueing
admitted_by e n m =
    cond (eqb e.allowance 0)
    (record { answer = Lists n (m + 1); line = unchanged; aside = appended m; entry = e })
    (record { answer = Lists (n + 1) m; line = appended n; aside = unchanged; entry = e })

-- `e` from the place `g` of the list set aside to the end of the line
abbrev pub topped_by : ℕ → ℕ → ℕ → Entry → Queueing
topped_by g n m e = record { answer = Lists (n + 1) (m - 1); line = appended n; aside = removed g m; entry = e }
