-- `kind_of` meets its contract.
use borrow.Author.Tests.{ne_eqb}
use Rattle.call_numbers.proofs.kind_of.Goals as goal

pub returns-in-0 : goal.returns-in-0
returns-in-0 c = rw c.in-0.is

pub returns-in_default : goal.returns-in_default
returns-in_default c = rw (ne_eqb c.args.number 0 c.in_default.in_default-own.rest.1)
