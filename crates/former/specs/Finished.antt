-- What is certain of a query where no number is stored or written that there was not before numbers had a sign: it delivers as it did. Assumes nothing:
-- these are definitions.
use Rattle.std.specs.Prelude.{ℕ, ◌<◌, ◌≡◌, true, List, [], ◌∷◌}
use Rattle.std.proofs.Math.Option.{none}
use Rattle.words.specs.declared.Written.TheVariants.{Refused}
use Rattle.tables.specs.Tables.{Tables}
use Rattle.plans.specs.Plans.{Plan, plan_of}
use Rattle.steps.specs.Steps.{after}
use Rattle.lists.specs.Closing.{closed}
use Rattle.turns.specs.Surveys.{Survey}
use Rattle.merges.specs.Merging.{merge_of}
use Rattle.cuts.specs.Histories.{Phone, ServedTurn, served_in, done_in, merge_input_of}
use Rattle.cuts.specs.Uncut.{MergesLists}
use Rattle.former.specs.Runs.{former_after}
use Rattle.former.specs.Lists.{former_gathered, former_fits}

-- the former run's list after n steps, at its end
abbrev pub former_run_list : Tables → Plan → ℕ → List ℕ
former_run_list t q n = closed q.ending (former_gathered q.ending (former_after t q n).delivered)

-- a list is that of the whole former run
pub record FormerList (t : Tables) (q : Plan) (list : List ℕ) : Type 0 where
  -- it ends with that step, and no sooner
  pub steps : ℕ
  pub over : (former_after t q steps).state ≡ none
  pub not_before : (n : ℕ) → n < steps → (former_after t q n).state ≡ none → ⊥
  pub is : list ≡ former_run_list t q steps

-- no sum of the former run's groups passes 2^63 - 1
abbrev pub NoneTooLarge : Tables → Plan → Type 0
NoneTooLarge t q = (n : ℕ) → former_fits q.ending (former_after t q n).delivered ≡ true

pub record AsEarlier (v : Survey) (plan : List ℕ) (h : Phone) : Type 0 where
  -- the uncut run is the former run, state for state and row for row
  pub run : (n : ℕ) → after v.tables (plan_of plan) n ≡ former_after v.tables (plan_of plan) n
  -- where no sum passes 2^63 - 1, no merge is refused but for the room of its buffer
  pub merges : MergesLists (plan_of plan).ending → NoneTooLarge v.tables (plan_of plan)
      → (x : ServedTurn) (rest : List ServedTurn) → h.waiting ≡ x ∷ rest → (behind : List ℕ) (y : ℕ)
      → (merge_of (merge_input_of plan h behind x)).answer ≡ Refused y → y ≡ 14
  -- a finished query, done answered and every list taken: its list is the former run's. A sum past 2^63 - 1 would have left it unfinished
  pub finished : done_in (served_in h) ≡ true → h.waiting ≡ [] → FormerList v.tables (plan_of plan) h.kept
