-- The cases hold, by computation.
use mathlib.Core.Path.{refl}
use mathlib.Core.List.{flatten}
use Rattle.cuts.specs.Computing as cuts
use Rattle.sparql.specs.Computing as sparql
use Rattle.merge_orders.specs.Ways.{given}
use Rattle.regions.specs.Regions.{region_lists, runs_to, rows_of_runs, some_over}
use Rattle.worked_cases.proofs.Holds.{computing}
use Rattle.worked_regions.specs.Regions.{SumsAdd, NothingOnce, FirstKept, FullAsked, SeparableOnes}

unfoldable regions_computing : Unit {0}
unfolding computing cuts.computing sparql.computing region_lists runs_to rows_of_runs some_over given flatten
regions_computing = tt

pub sums_add : SumsAdd
unfolding regions_computing
sums_add = record { done = (refl, refl); lists = refl; made = refl; runs = refl; once = refl; twice = refl }

pub nothing_once : NothingOnce
unfolding regions_computing
nothing_once = record { lists = refl; some_rows = refl; no_rows_fact = refl }

pub first_kept : FirstKept
unfolding regions_computing
first_kept = record { in_sequence = refl; other_sequence = refl; earlier_threshold = refl; later_threshold = refl }

pub full_asked : FullAsked
unfolding regions_computing
full_asked = record { right = refl; unfinished = refl }

pub separable_ones : SeparableOnes
unfolding regions_computing
separable_ones = record { one = refl; across = refl; no_variable = refl }
