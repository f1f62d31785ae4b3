-- What a finished query has, however it was cut, and what a play that answers finished leaves. Assumes nothing: these are definitions.
use Rattle.std.specs.Prelude.{ℕ, ◌≤◌, ◌≡◌, true, List, map, take, drop}
use Rattle.words.specs.Bindings.{Bindings}
use Rattle.sequences.specs.Sequences.{all}
use Rattle.tables.specs.Tables.{Tables}
use Rattle.plans.specs.Plans.{plan_of}
use Rattle.steps.specs.Steps.{after}
use Rattle.cuts.specs.Histories.{Phone, served_in, steps_in}
use Rattle.cuts.specs.Uncut.{EndsAt}
use Rattle.cuts.specs.Unsent.{BestUnsent}
use Rattle.sparql.specs.Algebra.{ToList}
use Rattle.sparql.specs.Terms.{Vocabulary}
use Rattle.sparql.specs.Reading.{is_word}
use Rattle.sparql.specs.Answers.{Readings, YearByYearOver, AnswerOver, read_by_number}

-- the uncut run of `steps` steps is whole, it has delivered SPARQL's solutions, each as often, year after year, and `list` is SPARQL's answer, in
-- words of 32 bits
pub record SparqlAnswerOver {N : Vocabulary} (r : Readings N) (t : Tables) (plan : List ℕ) (steps : ℕ) (list : List ℕ) : Type 0 where
  pub ends : EndsAt t (plan_of plan) steps
  pub run : ToList r.solutions (map r.mapping (after t (plan_of plan) steps).delivered)
  pub years : YearByYearOver r t (plan_of plan) (after t (plan_of plan) steps).delivered
  pub answer : AnswerOver r (after t (plan_of plan) steps).delivered (plan_of plan).ending list
  pub words : all is_word list ≡ true

-- a query whose turns delivered some rows, joined in order: the kept list is the answer, whatever thresholds were sent. Of rows, groups and registers
-- always, and of a best-of query where none was sent, these rows too are SPARQL's solutions, each as often, year after year, and the turns' steps are
-- the whole run's
pub record FinishedOver {N : Vocabulary} (r : Readings N) (t : Tables) (plan : List ℕ) (rows : List Bindings) (h : Phone) : Type 0 where
  -- the steps of the whole uncut run
  pub steps : ℕ
  pub kept : SparqlAnswerOver r t plan steps h.kept
  -- the turns took no more
  pub no_more : steps_in h.taken ≤ steps
  pub delivered : BestUnsent (plan_of plan).ending (served_in h) → ToList r.solutions (map r.mapping rows)
  pub years : BestUnsent (plan_of plan).ending (served_in h) → YearByYearOver r t (plan_of plan) rows
  pub as_many : BestUnsent (plan_of plan).ending (served_in h) → steps_in h.taken ≡ steps

-- the first `words` words of `kept` are the answer, and those past them are as they were before
pub record PlayedOver {N : Vocabulary} (r : Readings N) (t : Tables) (plan before kept : List ℕ) (words : ℕ) : Type 0 where
  pub steps : ℕ
  pub front : SparqlAnswerOver r t plan steps (take words kept)
  pub rest : drop words kept ≡ drop words before

-- ---- where names and texts are known by their numbers
abbrev pub SparqlAnswer : Tables → List ℕ → ℕ → List ℕ → Type 0
SparqlAnswer t plan steps list = SparqlAnswerOver (read_by_number t (plan_of plan)) t plan steps list

abbrev pub FinishedBy : Tables → List ℕ → List Bindings → Phone → Type 0
FinishedBy t plan rows h = FinishedOver (read_by_number t (plan_of plan)) t plan rows h

abbrev pub PlayedOut : Tables → List ℕ → List ℕ → List ℕ → ℕ → Type 0
PlayedOut t plan before kept words = PlayedOver (read_by_number t (plan_of plan)) t plan before kept words
