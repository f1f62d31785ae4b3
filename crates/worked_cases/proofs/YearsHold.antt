-- Every case of the tables of years holds, by computation.
use mathlib.Core.Path.{refl}
use mathlib.Core.List.{List, [], ◌∷◌, ◌++◌}
use Rattle.worked_cases.specs.Calls.{Case, Hold, all, ◌&◌}
use Rattle.worked_cases.specs.Years.{of_years, of_no_rows, of_other_years, of_totals, starred_and_years}
use Rattle.worked_cases.proofs.Holds.{computing, starred_hold}
use Rattle.worked_cases.proofs.ByOutcomes.{by_outcomes}

-- the latest year, a named one, and every year there is
pub years_hold : Hold of_years
unfolding computing
years_hold = by_outcomes of_years refl

-- a year without rows, and no rows at all
pub no_rows_hold : Hold of_no_rows
unfolding computing
no_rows_hold = by_outcomes of_no_rows refl

-- the state of a year that is not read
pub other_years_hold : Hold of_other_years
unfolding computing
other_years_hold = by_outcomes of_other_years refl

-- lists over all years
pub totals_hold : Hold of_totals
unfolding computing
totals_hold = by_outcomes of_totals refl

-- two tables hold together
both_hold : (cs ds : List Case) → Hold cs → Hold ds → Hold (cs ++ ds)
both_hold [] ds all h = h
both_hold (c ∷ cs) ds (e & k) h = e & both_hold cs ds k h

-- the starred cases and those of years, as one table
pub starred_and_years_hold : Hold starred_and_years
starred_and_years_hold =
    both_hold _ _ starred_hold (both_hold _ _ years_hold (both_hold _ _ no_rows_hold (both_hold _ _ other_years_hold totals_hold)))
