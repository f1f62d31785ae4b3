-- Every case of the tables of conditions holds, by computation.
use mathlib.Core.Path.{refl}
use Rattle.worked_cases.specs.Calls.{Hold}
use Rattle.worked_values.specs.Comparing.{six_comparisons, kinds_of_terms, connectives, nested}
use Rattle.worked_values.specs.ShortSides.{Skips, ReadsOn, Elsewhere, NotLone, NoCondition}
use Rattle.worked_cases.proofs.Holds.{computing}
use Rattle.worked_cases.proofs.ByOutcomes.{by_outcomes}

-- the six comparisons, with the constant on the right and on the left
pub six_comparisons_hold : Hold six_comparisons
unfolding computing
six_comparisons_hold = by_outcomes six_comparisons refl

-- equality and less, by the kinds of both terms
pub kinds_of_terms_hold : Hold kinds_of_terms
unfolding computing
kinds_of_terms_hold = by_outcomes kinds_of_terms refl

-- and, or, not
pub connectives_hold : Hold connectives
unfolding computing
connectives_hold = by_outcomes connectives refl

pub nested_hold : Hold nested
unfolding computing
nested_hold = by_outcomes nested refl

-- what is read and what is skipped
pub skips_hold : Skips
unfolding computing
skips_hold = (refl, refl, refl, refl)

pub reads_on_hold : ReadsOn
unfolding computing
reads_on_hold = (refl, refl, refl, refl, refl, refl, refl)

pub elsewhere_hold : Elsewhere
unfolding computing
elsewhere_hold = (refl, refl, refl, refl, refl, refl)

pub not_lone_hold : NotLone
unfolding computing
not_lone_hold = (refl, refl, refl, refl, refl, refl)

pub no_condition_hold : NoCondition
unfolding computing
no_condition_hold = (refl, refl, refl)
