-- Every case of the tables of limits holds, by computation.
use mathlib.Core.Path.{refl}
use Rattle.worked_cases.specs.Calls.{Hold}
use Rattle.worked_limits.specs.Limits.{of_form, of_endings, of_buffers}
use Rattle.worked_cases.proofs.Holds.{computing}
use Rattle.worked_cases.proofs.ByOutcomes.{by_outcomes}

pub of_form_hold : Hold of_form
unfolding computing
of_form_hold = by_outcomes of_form refl

pub of_endings_hold : Hold of_endings
unfolding computing
of_endings_hold = by_outcomes of_endings refl

pub of_buffers_hold : Hold of_buffers
unfolding computing
of_buffers_hold = by_outcomes of_buffers refl
