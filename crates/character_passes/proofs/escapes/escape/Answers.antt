-- `escape` meets its contract.
use Rattle.characters.specs.Escapes.{escape_to}
use Rattle.character_passes.proofs.Digits.{escape_end, escape_four, escape_eight, escape_none}
use mathlib.Core.Path.{sym, ap, ◌∙◌}
use native.Mathlib.Omega.{arith}
use Rattle.character_passes.proofs.escapes.escape.Goals as goal

pub returns-then-from-text : goal.returns-then-from-text
returns-then-from-text c = let a = c.args in sym (escape_end a.text.now a.from (omega (arith, c.if-from-text.true)))

pub returns-in-117 : goal.returns-in-117
returns-in-117 c =
    let a = c.args in
    c.escape_to.ensures ∙ (ap (λ v. escape_to v 5) c.hex_number.ensures ∙ sym (escape_four a.text.now a.from (omega arith) c.in-117.is))

pub returns-in-85 : goal.returns-in-85
returns-in-85 c =
    let a = c.args in
    c.escape_to-in-85.ensures
    ∙ (ap (λ v. escape_to v 9) c.hex_number-in-85.ensures ∙ sym (escape_eight a.text.now a.from (omega arith) (λ e. omega (arith, c.in-85.is)) c.in-85.is))

pub returns-in_default : goal.returns-in_default
returns-in_default c =
    let a = c.args in
    sym (escape_none a.text.now a.from (omega arith) (λ e. omega arith) (λ e. omega arith))
