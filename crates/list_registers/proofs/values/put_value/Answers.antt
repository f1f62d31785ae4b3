-- `put_value` meets its contract: a value that is not bound leaves all as it was.
use mathlib.Core.Path.{◌∙◌}
use borrow.Author.Tests.{eq-eqb, ne_eqb}
use Rattle.words.specs.Words.{unbound}
use Rattle.registers.specs.Registers.{register_count}
use Rattle.list_registers.proofs.Raising.{over_own}
use Rattle.list_registers.proofs.values.put_value.Goals as goal

pub returns-then-value-ne-UNBOUND : goal.returns-then-value-ne-UNBOUND
returns-then-value-ne-UNBOUND c =
    c.raise.ensures ∙ rw (ne_eqb c.args.value unbound c.if-value-ne-UNBOUND.true)

pub returns-else-value-ne-UNBOUND : goal.returns-else-value-ne-UNBOUND
returns-else-value-ne-UNBOUND c =
    over_own c.args.out.now register_count c.requires ∙ rw (eq-eqb c.args.value unbound c.if-value-ne-UNBOUND.false)
