-- What demand 3 says of a history: it is as the uncut run, which knows no threshold. A position of that run is the number of its steps up to there.
-- Assumes nothing: these are definitions.
use Rattle.std.specs.Prelude.{ℕ, zero, suc, ◌+◌, ◌≤◌, ◌<◌, ◌≡◌, ◌↔◌, Bool, true, false, length, take}
use mathlib.Core.List.{List, [], ◌∷◌, flatten}
use Rattle.std.proofs.Math.Option.{none}
use Rattle.tables.specs.Tables.{Tables}
use Rattle.plans.specs.Endings.{Ending, rows, top, group, registers}
use Rattle.plans.specs.Plans.{Plan}
use Rattle.steps.specs.Steps.{Run, after}
use Rattle.steps.specs.Saved.{saved_words}
use Rattle.lists.specs.Gathering.{rows_fit}
use Rattle.lists.specs.Closing.{list_at}
use Rattle.turns.specs.Surveys.{Survey}
use Rattle.turns.specs.Turns.{is_over}
use Rattle.cuts.specs.Histories.{ServedTurn, Phone, served_in, steps_in, done_in}
use Rattle.cuts.specs.Premises.{lists_in}

-- the rows, best-of list, groups or registers of a run, as words: closed where the run is over
abbrev pub run_list : Ending → Run → List ℕ
run_list e r = list_at e [] (is_over r.state) r.delivered

-- what is kept of the uncut run's lists after a number of steps: nothing before the first step, for then no list is taken yet
abbrev pub kept_after : Tables → Plan → ℕ → List ℕ
kept_after t q zero = []
kept_after t q (suc n) = run_list q.ending (after t q (suc n))

-- the totals of a run's groups, counted as whole numbers of any size, are in the range of test 13
abbrev pub run_fits : Ending → Run → Bool
run_fits e r = rows_fit e r.delivered

-- the uncut run ends with its n-th step: n is its whole length
pub record EndsAt (t : Tables) (q : Plan) (n : ℕ) : Type 0 where
  pub over : (after t q n).state ≡ none
  pub not_before : (m : ℕ) → m < n → (after t q m).state ≡ none → ⊥

-- why the list of a turn, which ends after `steps` steps of the uncut run, is not taken into a buffer of `room` words. By 13: a total of
-- the run's groups up to there leaves its range, whatever those before and after do. By 14: none does, and the run's list up to there is longer
-- than the buffer
pub data NotTaken (t : Tables) (q : Plan) (steps room : ℕ) : ℕ → Type 0 where
  totals_pass : run_fits q.ending (after t q steps) ≡ false → NotTaken t q steps room 13
  no_room : run_fits q.ending (after t q steps) ≡ true → room < length (kept_after t q steps) → NotTaken t q steps room 14

-- a query whose lists are merged: best-of, groups or registers
abbrev pub MergesLists : Ending → Type 0
MergesLists (rows vs) = ⊥
MergesLists (top k vs keys) = Unit {0}
MergesLists (group vs m) = Unit {0}
MergesLists (registers v) = Unit {0}

-- some served turns' lists, joined end to end
abbrev pub joined_lists : List ServedTurn → List ℕ
joined_lists xs = flatten (lists_in xs)

-- ---- positions
-- a served turn takes the uncut run from one position to another: it leaves the words of the state there, under the survey's number, or none; it
-- took a step at least, no more than its quantum and no more than the distance, and exactly the distance where it was sent no threshold
pub record Takes (v : Survey) (q : Plan) (from to : ℕ) (x : ServedTurn) : Type 0 where
  pub left : x.left ≡ saved_words v.number (after v.tables q to).state
  -- no position lies past the run's end
  pub going : (m : ℕ) → m < to → (after v.tables q m).state ≡ none → ⊥
  pub least : 1 ≤ x.steps
  pub within : x.steps ≤ x.quantum
  pub no_further : from + x.steps ≤ to
  pub as_far : x.sent ≡ [] → from + x.steps ≡ to

-- served turns, one behind the other, from the position `from` to the position `end`
abbrev pub Placed : Survey → Plan → ℕ → List ServedTurn → ℕ → Type 0
Placed v q from [] end = from ≡ end
Placed v q from (x ∷ xs) end = (to : ℕ) × (Takes v q from to x × Placed v q to xs end)

pub record AsUncut (v : Survey) (q : Plan) (h : Phone) : Type 0 where
  -- the positions of the uncut run at the end of the last list taken, and at the saved words
  pub upto : ℕ
  pub reached : ℕ
  pub ordered : upto ≤ reached
  -- each served turn lies between two positions, one behind the other
  pub taken : Placed v q 0 h.taken upto
  pub waiting : Placed v q upto h.waiting reached
  -- the turns took no more steps than the uncut run takes to come there
  pub steps : steps_in (served_in h) ≤ reached
  -- the saved words are, under the survey's number, its state there, or none
  pub state : h.saved ≡ saved_words v.number (after v.tables q reached).state
  -- none exactly at its end
  pub end : (h.saved ≡ []) ↔ EndsAt v.tables q reached
  -- done was answered exactly then
  pub done : (done_in (served_in h) ≡ true) ↔ EndsAt v.tables q reached
  -- the lists taken so far make its rows, its best-of list, its groups or its registers up to where the last of them ended
  pub list : h.kept ≡ kept_after v.tables q upto
  -- whose totals are in their range
  pub fits : run_fits q.ending (after v.tables q upto) ≡ true
  -- for a row query, to which no threshold is sent, the first `k` lists make its rows up to where the last of them ended
  pub prefixes : (vs : List ℕ) → q.ending ≡ rows vs → (k : ℕ)
      → joined_lists (take k (served_in h)) ≡ run_list q.ending (after v.tables q (steps_in (take k (served_in h))))
  -- a finished query, done answered and every list taken: its list is the whole uncut run's
  pub finished : done_in (served_in h) ≡ true → h.waiting ≡ []
      → EndsAt v.tables q upto × (h.kept ≡ run_list q.ending (after v.tables q upto))

-- why a merge into a buffer of `room` words left the earliest list that is not taken yet, by the number `y`: its turn takes the uncut run from
-- `upto`, where the last list taken ended, to `to`, and the run's list up to there is not taken
pub record NotTakenAt (v : Survey) (q : Plan) (h : Phone) (x : ServedTurn) (room y : ℕ) : Type 0 where
  pub upto : ℕ
  pub taken : Placed v q 0 h.taken upto
  pub to : ℕ
  pub takes : Takes v q upto to x
  pub cause : NotTaken v.tables q to room y
