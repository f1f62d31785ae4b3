-- The plan of an opening that is served has the form, and its query opens.
use Prim.Native.Nat.{ℕ}
use mathlib.Core.Path.{◌≡◌, ap}
use mathlib.Core.Bool.{true}
use mathlib.Core.List.{List}
use Rattle.plans.specs.Plans.{read_plan, has_form}
use Rattle.turns.specs.Surveys.{Survey}
use Rattle.queries.specs.Playing.{Started}
use Rattle.queries.proofs.Starting.{start_accepts}
use Rattle.print_writing.specs.Shown.{CanOpen}

module _ (v : Survey) (plan state : List ℕ) (saved : ℕ) (s : Started v plan state saved) where
  pub started_form : has_form (read_plan plan) ≡ true
  started_form = ap has_form (start_accepts v plan state saved s).read

  pub started_opens : CanOpen v plan
  started_opens = (s.lent, s.opens)
