-- `Term::value_rank` meets its contract: a number's place goes by its value.
use mathlib.Core.Path.{sym, ◌∙◌}
use Rattle.words.proofs.Term.value_rank.Goals as goal

pub returns-then-is_number : goal.returns-then-is_number
returns-then-is_number c = rw (sym c.is_number.ensures ∙ c.if-is_number.true)

pub returns : goal.returns
returns c = rw (sym c.is_number.ensures ∙ c.if-is_number.false)
