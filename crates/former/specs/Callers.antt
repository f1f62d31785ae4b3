-- Callers who asked for a best-of list when a k of 0 meant 64: how their plans were read, what they write now, and what is certain of their lists.
-- Assumes nothing: these are definitions.
use Rattle.std.specs.Prelude.{ℕ, ◌≡◌, true, List, [], ◌∷◌, ◌++◌, drop, get_or}
use Rattle.words.specs.Words.{low, word, top_kind}
use Rattle.tables.specs.Tables.{Tables}
use Rattle.plans.specs.declared.EndingKind.{EndingKind}
use Rattle.plans.specs.declared.EndingKind.TheVariants.{Rows, Top, Group, Registers, Invalid}
use Rattle.plans.specs.Years.{head_of}
use Rattle.plans.specs.Endings.{Ending, top, row_variables, after_rows, ending_kind_of, ending_as}
use Rattle.plans.specs.Plans.{Plan, branch_count, plan_of}
use Rattle.plans.specs.Reading.{branch_start}
use Rattle.plans.specs.Former.{former_count, written}
use Rattle.steps.specs.Steps.{after}
use Rattle.turns.specs.Surveys.{Survey}
use Rattle.turns.specs.Opening.{open_of, Opens}
use Rattle.cuts.specs.Histories.{Event, Phone, served_in, done_in, history, fresh}
use Rattle.cuts.specs.Premises.{Premises}
use Rattle.cuts.specs.Uncut.{EndsAt, run_list}
use Rattle.former.specs.Runs.{FormerQuery}
use Rattle.former.specs.Finished.{FormerList}

-- ---- how words were read
-- where a plan's ending stands
abbrev pub ending_place : List ℕ → ℕ
ending_place ws = branch_start (branch_count (head_of ws)) ws

-- an ending as it was read: only the k of a best-of ending was read otherwise
abbrev pub former_ending_as : EndingKind → List ℕ → Ending
former_ending_as Rows ws = ending_as Rows ws
former_ending_as Top ws = top (former_count (low (get_or ws 0 0))) (row_variables (drop 1 ws)) (after_rows (drop 1 ws))
former_ending_as Group ws = ending_as Group ws
former_ending_as Registers ws = ending_as Registers ws
former_ending_as Invalid ws = ending_as Invalid ws

abbrev pub former_ending_at : List ℕ → Ending
former_ending_at ws = former_ending_as (ending_kind_of (get_or ws 0 0)) ws

-- the plan that words stood for
abbrev pub former_plan_of : List ℕ → Plan
former_plan_of ws =
    record { years = (plan_of ws).years; branches = (plan_of ws).branches; ending = former_ending_at (drop (ending_place ws) ws) }

-- ---- what callers write
-- a plan whose best-of ending has a k: the words before that ending, and those behind its first word
abbrev pub asking : List ℕ → ℕ → List ℕ → List ℕ
asking front k rest = front ++ (word top_kind k ∷ rest)

-- ---- their lists
-- a list is that of a whole uncut run
pub record UncutList (t : Tables) (q : Plan) (list : List ℕ) : Type 0 where
  pub steps : ℕ
  pub ends : EndsAt t q steps
  pub is : list ≡ run_list q.ending (after t q steps)

-- a caller whose plan was `asking front k rest`, and who now asks with the k that is written for it
pub record AsAsked (v : Survey) (front : List ℕ) (k : ℕ) (rest : List ℕ) (h : Phone) : Type 0 where
  -- the plan is the one that the former words stood for
  pub plan : plan_of (asking front (written k) rest) ≡ former_plan_of (asking front k rest)
  -- a finished query, done answered and every list taken, has that plan's list
  pub finished : done_in (served_in h) ≡ true → h.waiting ≡ [] → UncutList v.tables (former_plan_of (asking front k rest)) h.kept
  -- and, over numbers that there were before they had a sign, by the former truth, order and gathering
  pub earlier : FormerQuery v.tables (former_plan_of (asking front k rest)) → done_in (served_in h) ≡ true → h.waiting ≡ []
      → FormerList v.tables (former_plan_of (asking front k rest)) h.kept

-- so of every opening that is served with the k that is written now, and every list of events under demand 3's premises
abbrev pub ListAsBefore : List ℕ → ℕ → List ℕ → Type 0
ListAsBefore front k rest =
    (v : Survey) (state : List ℕ) → Opens v (asking front (written k) rest) state → (es : List Event)
    → Premises v (asking front (written k) rest) (fresh (open_of v (asking front (written k) rest) state)) es
    → AsAsked v front k rest (history v (asking front (written k) rest) (fresh (open_of v (asking front (written k) rest) state)) es)
