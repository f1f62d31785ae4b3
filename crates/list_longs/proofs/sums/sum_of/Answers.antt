-- `sum_of` meets its contract: a number below zero has ones in the bits above its own.
use mathlib.Core.Path.{sym, ◌∙◌}
use native.Mathlib.Omega.{arith}
use Rattle.lists.proofs.Sums.{value_low, value_high}
use Rattle.list_longs.proofs.sums.sum_of.Goals as goal

pub returns-then-value-lt-HALF_VALUES : goal.returns-then-value-lt-HALF_VALUES
returns-then-value-lt-HALF_VALUES c =
    let v = c.value-value.ensures in
    c.long.ensures.0 ∙ v ∙ sym (value_low c.args.word (omega (arith, v, c.if-value-lt-HALF_VALUES.true)))

pub overflow_add-result : goal.overflow_add-result
overflow_add-result c = omega (arith, c.long-2.ensures.1)

pub returns : goal.returns
returns c =
    let v = c.value-value.ensures in
    omega (arith, c.long-2.ensures.0, v, value_high c.args.word (omega (arith, v, c.if-value-lt-HALF_VALUES.false)))
