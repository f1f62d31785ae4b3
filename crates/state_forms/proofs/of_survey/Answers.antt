-- `state_forms::of_survey` meets its contract.
use mathlib.Core.Path.{sym, ◌∙◌}
use borrow.Author.Tests.{not-true, not-false}
use Rattle.state_forms.proofs.ShapeCases.{number_long, number_short}
use Rattle.state_forms.proofs.of_survey.Goals as goal

pub returns-then-not-number_right : goal.returns-then-not-number_right
returns-then-not-number_right c =
    sym (number_long c.args.survey c.args.word (sym c.number_right.ensures ∙ not-true _ c.if-not-number_right.true-raw))

pub returns : goal.returns
returns c =
    number_short c.args.survey c.args.word (sym c.number_right.ensures ∙ not-false _ c.if-not-number_right.false-raw) c.number.result c.number.ensures
