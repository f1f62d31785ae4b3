-- `survey_number` meets its contract.
use mathlib.Core.Path.{sym, ◌∙◌}
use Rattle.queue_turns.proofs.Numbering.{number_long, number_short}
use Rattle.queue_turns.proofs.numbers.survey_number.Goals as goal

pub returns-then-number_right : goal.returns-then-number_right
returns-then-number_right c = number_short c.args.survey (sym c.number_right.ensures ∙ c.if-number_right.true)

pub returns : goal.returns
returns c = number_long c.args.survey (sym c.number_right.ensures ∙ c.if-number_right.false)
