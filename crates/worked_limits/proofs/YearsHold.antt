-- Every case of the tables of the years that rows and plans may have, and of the places of years, holds, by computation.
use mathlib.Core.Path.{refl}
use Rattle.worked_cases.specs.Calls.{Hold}
use Rattle.worked_limits.specs.YearLimits.{of_rows, of_plan_years}
use Rattle.worked_limits.specs.YearPlaces.{year_orders, year_ranges, between_years, year_lists}
use Rattle.worked_cases.proofs.Holds.{computing}
use Rattle.worked_cases.proofs.ByOutcomes.{by_outcomes}

pub of_rows_hold : Hold of_rows
unfolding computing
of_rows_hold = by_outcomes of_rows refl

pub of_plans_hold : Hold of_plan_years
unfolding computing
of_plans_hold = by_outcomes of_plan_years refl

pub year_orders_hold : Hold year_orders
unfolding computing
year_orders_hold = by_outcomes year_orders refl

pub year_ranges_hold : Hold year_ranges
unfolding computing
year_ranges_hold = by_outcomes year_ranges refl

pub between_years_hold : Hold between_years
unfolding computing
between_years_hold = by_outcomes between_years refl

pub year_lists_hold : Hold year_lists
unfolding computing
year_lists_hold = by_outcomes year_lists refl
