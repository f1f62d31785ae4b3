-- What demand 3 says of a history in which no threshold was sent, as with rows, groups and registers none can be: positions are steps added up, and
-- the history is as the uncut run step for step.
-- Assumes nothing: these are definitions.
use Rattle.std.specs.Prelude.{ℕ, ◌≤◌, ◌≡◌, ◌↔◌, true, List, [], ◌∷◌, take}
use Rattle.plans.specs.Endings.{Ending, rows, top, group, registers}
use Rattle.plans.specs.Plans.{Plan}
use Rattle.steps.specs.Steps.{after}
use Rattle.steps.specs.Saved.{saved_words}
use Rattle.turns.specs.Surveys.{Survey}
use Rattle.cuts.specs.Histories.{ServedTurn, Phone, served_in, steps_in, done_in}
use Rattle.cuts.specs.Uncut.{EndsAt, joined_lists, run_list, kept_after}

-- each of some served turns was sent no threshold
abbrev pub Unsent : List ServedTurn → Type 0
Unsent [] = Unit {0}
Unsent (x ∷ xs) = (x.sent ≡ []) × Unsent xs

-- none was sent with a best-of query. Of rows, groups and registers nothing is asked, for with these test 11 refuses every threshold
abbrev pub BestUnsent : Ending → List ServedTurn → Type 0
BestUnsent (rows vs) xs = Unit {0}
BestUnsent (top k vs keys) xs = Unsent xs
BestUnsent (group vs m) xs = Unit {0}
BestUnsent (registers v) xs = Unit {0}

-- each served turn took at least one step and no more than its quantum
abbrev pub WithinQuantum : List ServedTurn → Type 0
WithinQuantum [] = Unit {0}
WithinQuantum (x ∷ xs) = ((1 ≤ x.steps) × (x.steps ≤ x.quantum)) × WithinQuantum xs

pub record StepForStep (v : Survey) (q : Plan) (h : Phone) : Type 0 where
  -- the saved words are, under the survey's number, a state of the uncut run, as many steps on as the served turns took, or none
  pub state : h.saved ≡ saved_words v.number (after v.tables q (steps_in (served_in h))).state
  -- none exactly at its end
  pub end : (h.saved ≡ []) ↔ EndsAt v.tables q (steps_in (served_in h))
  -- done was answered exactly then
  pub done : (done_in (served_in h) ≡ true) ↔ EndsAt v.tables q (steps_in (served_in h))
  -- no turn's steps are above its quantum
  pub quantum : WithinQuantum (served_in h)
  -- the lists taken so far make its rows, its best-of list, its groups or its registers up to where the last of them ended
  pub list : h.kept ≡ kept_after v.tables q (steps_in h.taken)
  -- for a row query, the first `k` lists make its rows up to where the last of them ended
  pub prefixes : (vs : List ℕ) → q.ending ≡ rows vs → (k : ℕ)
      → joined_lists (take k (served_in h)) ≡ run_list q.ending (after v.tables q (steps_in (take k (served_in h))))
  -- a finished query, done answered and every list taken: its steps and its list are the whole uncut run's
  pub finished : done_in (served_in h) ≡ true → h.waiting ≡ []
      → EndsAt v.tables q (steps_in h.taken) × (h.kept ≡ run_list q.ending (after v.tables q (steps_in h.taken)))
