-- Topping up: its tests in order, its answer, and both lists at exit. Assumes nothing: these are definitions.
use Rattle.std.specs.Prelude.{ℕ, Bool, ◌&&◌, not, List, [], ◌∷◌, ◌++◌, map, leb}
use Rattle.sequences.specs.Sequences.{keep, member}
use Rattle.words.specs.Tests.{Test}
use Rattle.calls.specs.Calls.{CallSchema, result_of_call}
use Rattle.queues.specs.declared.Entry.{Entry}
use Rattle.queues.specs.declared.Queued.{Queued}
use Rattle.queues.specs.Lists.{LentLists, line_of, aside_of, Queue, owners_in, has_owner, entries_right, space_right}
use Rattle.queues.specs.Changing.{QueueBuffers, QueuedResult, EntryCounts, changes_lists}

-- 17 also refuses an amount of 0, and an owner who is not set aside
abbrev pub top_up_tests_by : Bool → Bool → List Test
top_up_tests_by entries room = (17, entries) ∷ (18, room) ∷ []

abbrev pub top_up_tests : LentLists → ℕ → ℕ → List Test
top_up_tests l owner amount =
    top_up_tests_by (entries_right l && (leb 1 amount && member owner (owners_in (aside_of l)))) (space_right 0 l)

-- the entry had no steps left: those that it has now are the amount
abbrev pub with_allowance : ℕ → Entry → Entry
with_allowance n e =
    record { allowance = n; owner = e.owner; planned = e.planned; saved = e.saved; plan = e.plan; state = e.state }

abbrev pub not_owner : ℕ → Entry → Bool
not_owner owner e = not (has_owner owner e)

-- the owner's entry goes from the list set aside to the end of the line
abbrev pub topped_up : LentLists → ℕ → ℕ → Queue
topped_up l owner amount =
    record {
      line = line_of l ++ map (with_allowance amount) (keep (has_owner owner) (aside_of l));
      aside = keep (not_owner owner) (aside_of l);
    }

-- ---- the call, of an owner and an amount
abbrev pub top_up_schema : LentLists → CallSchema (ℕ × ℕ) Queued Queued QueueBuffers EntryCounts
top_up_schema l = changes_lists l (λ i. top_up_tests l i.0 i.1) (17 ∷ 18 ∷ []) (λ i. topped_up l i.0 i.1)

abbrev pub top_up_of : LentLists → ℕ → ℕ → QueuedResult
top_up_of l owner amount = result_of_call (top_up_schema l) (owner, amount)
