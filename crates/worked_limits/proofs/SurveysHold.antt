-- Every case of the table of survey numbers holds, by computation.
use mathlib.Core.Path.{refl}
use Rattle.worked_cases.specs.Calls.{Hold}
use Rattle.worked_limits.specs.SurveyNumbers.{of_surveys}
use Rattle.worked_cases.proofs.Holds.{computing}
use Rattle.worked_cases.proofs.ByOutcomes.{by_outcomes}

pub surveys_hold : Hold of_surveys
unfolding computing
surveys_hold = by_outcomes of_surveys refl
