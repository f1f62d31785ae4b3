-- `value_of` meets its contract, by the cases of a term's value.
use mathlib.Core.Path.{sym, ◌∙◌}
use Rattle.words.proofs.Bound.{value_there, value_missing, value_constant}
use Rattle.words.proofs.value_of.Goals as goal

pub returns-then-variable-values : goal.returns-then-variable-values
returns-then-variable-values c =
    sym (
    value_there c.args.bound.now c.args.word
    (sym c.is_variable.ensures ∙ c.if-is_variable.true)
    c.wide-variable.result
    (c.wide-variable.ensures ∙ c.value.ensures)
    c.if-variable-values.true
    )

pub returns-then-is_variable : goal.returns-then-is_variable
returns-then-is_variable c =
    sym (
    value_missing c.args.bound.now c.args.word
    (sym c.is_variable.ensures ∙ c.if-is_variable.true)
    c.wide-variable.result
    (c.wide-variable.ensures ∙ c.value.ensures)
    c.if-variable-values.false
    )

pub returns : goal.returns
returns c =
    sym (
    value_constant c.args.bound.now c.args.word
    (sym c.is_variable.ensures ∙ c.if-is_variable.false)
    )
