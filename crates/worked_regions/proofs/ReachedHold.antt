-- The cases of `reached` hold, by computation.
use mathlib.Core.Path.{refl}
use Rattle.sequences.specs.Sequences.{count_below}
use Rattle.reach.specs.Reach.{years_before, outermost}
use Rattle.worked_cases.proofs.Holds.{computing}
use Rattle.worked_regions.specs.Reached.{ReachedCases}

pub reached_hold : ReachedCases
unfolding computing years_before outermost count_below
reached_hold =
    record {
      first = refl;
      third = refl;
      deeper = refl;
      at_end = refl;
      branch = refl;
      year_one = refl;
      year_two = refl;
      alone = refl;
      no_words = refl;
      past_end_fact = refl;
    }
