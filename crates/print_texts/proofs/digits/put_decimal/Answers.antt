-- `put_decimal` meets its contract: the digits end where they are counted to.
use Prim.Native.Nat.{◌+◌, ◌-◌}
use native.Mathlib.Omega.{arith}
use mathlib.Core.Path.{◌≡◌, ap, ◌∙◌}
use lib.ListN.{length}
use Rattle.print_texts.specs.Texts.{decimal}
use Rattle.print_texts.proofs.digits.put_decimal.Goals as goal

pub returns : goal.returns
returns c =
    let a = c.args in
    let e = c.digit_count.ensures in
    let p : a.at + c.digit_count.result - length (decimal a.x) ≡ a.at = omega arith in
    (ap (λ k. a.at + k) e, c.write_digits.ensures ∙ rw p)
