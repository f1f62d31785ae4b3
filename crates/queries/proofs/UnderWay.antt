-- A query under way, as a history of calls: what a loop over turns keeps true.
use Prim.Native.Nat.{ℕ, ◌≤◌, ◌<◌}
use mathlib.Core.Path.{◌≡◌}
use mathlib.Core.Bool.{true}
use mathlib.Core.List.{List, []}
use lib.ListN.{length, take}
use Rattle.words.specs.Words.{low_numbers}
use Rattle.sequences.specs.Sequences.{over}
use Rattle.plans.specs.Plans.{plan_of}
use Rattle.steps.specs.Steps.{after}
use Rattle.steps.specs.Saved.{least_state_words}
use Rattle.turns.specs.Surveys.{Survey}
use Rattle.cuts.specs.Histories.{Event, Phone, steps_in, history}
use Rattle.cuts.specs.Premises.{Premises}
use Rattle.cuts.specs.Uncut.{run_fits}
use Rattle.cuts.specs.Unsent.{Unsent}
use Rattle.queries.specs.declared.Keeping.{Keeping}
use Rattle.queries.specs.Stepping.{kept_of}

-- what the phone holds at the start: the saved words, and no list
abbrev pub start_at : List ℕ → ℕ → Phone
start_at state saved = record { saved = take saved state; taken = []; waiting = []; kept = [] }

-- the buffers hold what a list of calls under demand 3's premises leaves, `count` turns served and every list taken
pub record UnderWay (keep : Keeping) (v : Survey) (plan : List ℕ) (first : Phone) (before : List ℕ) (count : ℕ) (state : List ℕ) (saved : ℕ)
    (kept : List ℕ) (used : ℕ) : Type 0 where
  pub few : v.number < low_numbers
  pub events : List Event
  pub premises : Premises v plan first events
  pub held : Phone
  pub reached : history v plan first events ≡ held
  pub taken : held.waiting ≡ []
  pub turns : length held.taken ≡ count
  -- to none of which a threshold was sent
  pub unsent : Unsent held.taken
  pub state_words_fact : take saved state ≡ held.saved
  pub state_count : saved ≡ length held.saved
  pub state_room_fact : least_state_words ≤ length state
  pub fits : run_fits (plan_of plan).ending (after v.tables (plan_of plan) (steps_in held.taken)) ≡ true
  pub list : kept ≡ over (kept_of keep (plan_of plan).ending held.kept) before
  pub words : used ≡ length (kept_of keep (plan_of plan).ending held.kept)
  pub room : used ≤ length before
