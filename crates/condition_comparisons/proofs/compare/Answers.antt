-- `compare` meets its contract, by the number of the comparison.
use borrow.Author.Tests.{ne_eqb}
use mathlib.Core.Path.{ap, ◌∙◌}
use lib.Dec.{ltb, leb}
use Rattle.conditions.specs.Truth.{negation, comparison}
use Rattle.conditions.proofs.ComparisonCases.{less_moved, at_most_moved, by_ranks}
use Rattle.condition_comparisons.proofs.compare.Goals as goal

pub returns-in-0 : goal.returns-in-0
unfolding comparison
returns-in-0 c = rw c.in-0.is c.equality.ensures

pub returns-in-1 : goal.returns-in-1
unfolding comparison
returns-in-1 c = rw c.in-1.is (c.negation.ensures ∙ ap negation c.equality-in-1.ensures)

pub returns-in-2 : goal.returns-in-2
unfolding comparison
returns-in-2 c =
    rw c.in-2.is (c.inequality.ensures ∙ by_ranks c.args.a c.args.b ltb less_moved _ _ c.key_rank-first.ensures.0 c.key_rank-second.ensures.0)

pub returns-in-3 : goal.returns-in-3
unfolding comparison
returns-in-3 c =
    rw c.in-3.is (c.inequality-in-3.ensures ∙ by_ranks c.args.a c.args.b leb at_most_moved _ _ c.key_rank-first.ensures.0 c.key_rank-second.ensures.0)

pub returns-in-4 : goal.returns-in-4
unfolding comparison
returns-in-4 c =
    rw c.in-4.is (c.inequality-in-4.ensures ∙ by_ranks c.args.b c.args.a ltb less_moved _ _ c.key_rank-second.ensures.0 c.key_rank-first.ensures.0)

pub returns-in-5 : goal.returns-in-5
unfolding comparison
returns-in-5 c =
    rw c.in-5.is (c.inequality-in-5.ensures ∙ by_ranks c.args.b c.args.a leb at_most_moved _ _ c.key_rank-second.ensures.0 c.key_rank-first.ensures.0)

pub returns-in_default : goal.returns-in_default
unfolding comparison
returns-in_default c =
    let r = c.in_default.in_default-own.rest in
    rw (
      ne_eqb _ _ r.0.0.0.0.0.1,
      ne_eqb _ _ r.0.0.0.0.1,
      ne_eqb _ _ r.0.0.0.1,
      ne_eqb _ _ r.0.0.1,
      ne_eqb _ _ r.0.1,
      ne_eqb _ _ r.1,
    )
