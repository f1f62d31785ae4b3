-- `equality` meets its contract, by its three cases.
use mathlib.Core.Path.{sym, ◌∙◌}
use Rattle.conditions.proofs.ComparisonCases.{equal_same, equal_mixed, unequal}
use Rattle.condition_comparisons.proofs.equality.Goals as goal

pub returns-then-a-b : goal.returns-then-a-b
returns-then-a-b c = sym (equal_same _ _ c.if-a-b.true)

pub returns-then-are_mixed : goal.returns-then-are_mixed
returns-then-are_mixed c = sym (equal_mixed _ _ c.if-a-b.false (sym c.are_mixed.ensures ∙ c.if-are_mixed.true))

pub returns : goal.returns
returns c = sym (unequal _ _ c.if-a-b.false (sym c.are_mixed.ensures ∙ c.if-are_mixed.false))
