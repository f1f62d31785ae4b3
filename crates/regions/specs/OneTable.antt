-- What is certain of a region of one table: what a finished query has (sparql_finished), of any list that its turns' lists make. Assumes nothing: these
-- are definitions.
use Rattle.std.specs.Prelude.{ℕ, ◌≤◌, ◌≡◌, List}
use Rattle.plans.specs.Plans.{plan_of}
use Rattle.turns.specs.Surveys.{Survey}
use Rattle.cuts.specs.Histories.{ServedTurn, steps_in}
use Rattle.cuts.specs.Unsent.{BestUnsent}
use Rattle.sparql_finished.specs.Finished.{SparqlAnswer}

pub record OneTable (v : Survey) (plan : List ℕ) (served : List ServedTurn) (list : List ℕ) : Type 0 where
  -- the steps of the whole uncut run
  pub steps : ℕ
  pub answer : SparqlAnswer v.tables plan steps list
  pub no_more : steps_in served ≤ steps
  pub as_many : BestUnsent (plan_of plan).ending served → steps_in served ≡ steps
