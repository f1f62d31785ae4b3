-- `column_of` meets its contract: a key's number makes the word of its variable.
use mathlib.Core.Path.{◌≡◌, ap, ◌∙◌}
use native.Mathlib.Omega.{arith}
use Rattle.words.specs.Words.{variable, low}
use Rattle.lists.specs.Rows.{index_of}
use Rattle.list_row_orders.proofs.column_of.Goals as goal

pub returns : goal.returns
returns c =
    let a = c.args in
    let e : c.variable-variable.result.0 ≡ variable (low a.key) = omega arith in
    c.index_of.ensures ∙ ap (λ w. index_of w a.vars.now) e
