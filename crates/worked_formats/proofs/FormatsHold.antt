-- Every case of the tables of kinds, of orders, of states and of terms holds, by computation.
use mathlib.Core.Path.{refl}
use Rattle.worked_cases.specs.Calls.{Hold}
use Rattle.worked_formats.specs.Kinds.{kinds, other_kinds}
use Rattle.worked_formats.specs.Orders.{fixed_fields, empty_ranges, fixed_earlier, three_orders, repeated}
use Rattle.worked_formats.specs.States.{through_branches, through_years, single_years, deep_states, wrong_states}
use Rattle.worked_formats.specs.Terms.{any_terms}
use Rattle.worked_cases.proofs.Holds.{computing}
use Rattle.worked_cases.proofs.ByOutcomes.{by_outcomes}

-- the table of kinds (docs/RULES.md, 1), and that no other kind may stand in a part's place
pub kinds_hold : Hold kinds
unfolding computing
kinds_hold = by_outcomes kinds refl

pub other_kinds_hold : Hold other_kinds
unfolding computing
other_kinds_hold = by_outcomes other_kinds refl

-- the order and the first place by the fixed fields, and where an empty range lies
pub fixed_fields_hold : Hold fixed_fields
unfolding computing
fixed_fields_hold = by_outcomes fixed_fields refl

pub empty_ranges_hold : Hold empty_ranges
unfolding computing
empty_ranges_hold = by_outcomes empty_ranges refl

pub fixed_earlier_hold : Hold fixed_earlier
unfolding computing
fixed_earlier_hold = by_outcomes fixed_earlier refl

pub three_orders_hold : Hold three_orders
unfolding computing
three_orders_hold = by_outcomes three_orders refl

pub repeated_hold : Hold repeated
unfolding computing
repeated_hold = by_outcomes repeated refl

-- states in words
pub through_branches_hold : Hold through_branches
unfolding computing
through_branches_hold = by_outcomes through_branches refl

pub through_years_hold : Hold through_years
unfolding computing
through_years_hold = by_outcomes through_years refl

pub single_years_hold : Hold single_years
unfolding computing
single_years_hold = by_outcomes single_years refl

pub deep_states_hold : Hold deep_states
unfolding computing
deep_states_hold = by_outcomes deep_states refl

pub wrong_states_hold : Hold wrong_states
unfolding computing
wrong_states_hold = by_outcomes wrong_states refl

-- any term in any place of a pattern
pub any_terms_hold : Hold any_terms
unfolding computing
any_terms_hold = by_outcomes any_terms refl
