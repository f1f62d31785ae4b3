-- `number_of` meets its contract: the tests are made in order.
use Rattle.words.specs.Tests.{first_failing}
use Rattle.plan_numbers.proofs.number_of.Goals as goal

pub returns-then-year : goal.returns-then-year
unfolding first_failing
returns-then-year c = rw (c.if-form.true, c.if-variables.true, c.if-year.true)

pub returns-then-variables : goal.returns-then-variables
unfolding first_failing
returns-then-variables c = rw (c.if-form.true, c.if-variables.true, c.if-year.false)

pub returns-then-form : goal.returns-then-form
unfolding first_failing
returns-then-form c = rw (c.if-form.true, c.if-variables.false)

pub returns : goal.returns
unfolding first_failing
returns c = rw c.if-form.false
