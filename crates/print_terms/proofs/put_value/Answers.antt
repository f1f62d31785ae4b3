-- `put_value` meets its contract: a number with its sign, any other value as it is.
use native.Mathlib.Omega.{arith}
use mathlib.Core.Path.{◌≡◌, sym, ap, ◌∙◌}
use lib.ListN.{length}
use Rattle.words.specs.Words.{term_value}
use Rattle.print_texts.proofs.Terms.{number_text, other_text}
use Rattle.print_terms.proofs.put_value.Goals as goal

pub put_signed-requires : goal.put_signed-requires
put_signed-requires c =
    let w = c.args.word in
    let e : c.long-value.result ≡ term_value w = c.long-value.ensures.0 ∙ c.value.ensures in
    let t = ap length (number_text w c.long-value.result (sym c.is_number.ensures ∙ c.if-is_number.true) e) in
    (omega arith, omega arith)

pub returns-then-is_number : goal.returns-then-is_number
returns-then-is_number c =
    let w = c.args.word in
    rw (number_text w c.long-value.result (sym c.is_number.ensures ∙ c.if-is_number.true) (c.long-value.ensures.0 ∙ c.value.ensures))
    c.put_signed.ensures

pub put_decimal-requires : goal.put_decimal-requires
put_decimal-requires c =
    let w = c.args.word in
    let t = ap length (other_text w c.long-value.result (sym c.is_number.ensures ∙ c.if-is_number.false) (c.long-value.ensures.0 ∙ c.value.ensures)) in
    omega arith

pub returns : goal.returns
returns c =
    let w = c.args.word in
    rw (other_text w c.long-value.result (sym c.is_number.ensures ∙ c.if-is_number.false) (c.long-value.ensures.0 ∙ c.value.ensures))
    c.put_decimal.ensures
