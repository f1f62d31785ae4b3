-- `write_digits` meets its contract: with the digits of what is left in front, the line is as it should be.
use native.Mathlib.Omega.{arith}
use mathlib.Core.Path.{refl, ◌∙◌}
use lib.ListN.{length-set}
use Rattle.print_texts.proofs.Decimals.{length_more, length_some}
use Rattle.print_texts.proofs.Placements.{digit_more, digit_one}
use Rattle.print_texts.proofs.digits.write_digits.Goals as goal

pub loop-rest-init : goal.loop-rest-init
loop-rest-init c = (omega arith, omega arith, refl, refl)

pub overflow_sub-i : goal.overflow_sub-i
overflow_sub-i c = let e = length_some c.loop-rest.rest in omega arith

pub bounds-line-i : goal.bounds-line-i
bounds-line-i c = let e = length_some c.loop-rest.rest in omega arith

pub loop-rest-preserved : goal.loop-rest-preserved
loop-rest-preserved c =
    let i = c.loop-rest.i in
    let n = c.loop-rest.rest in
    let inv = c.loop-rest.invariant in
    let e = length_more n (omega arith) in (
      omega arith,
      omega arith,
      (simp length-set) ∙ inv.2,
      rw c.digit.ensures (digit_more c.loop-rest.line i n (omega arith) (omega arith) (omega arith) ∙ inv.3),
    )

pub overflow_sub-line : goal.overflow_sub-line
overflow_sub-line c = let e = length_some c.loop-rest.rest in omega arith

pub bounds-line-i-2 : goal.bounds-line-i-2
bounds-line-i-2 c = let e = length_some c.loop-rest.rest in omega arith

pub shape_of-line : goal.shape_of-line
shape_of-line c = (simp length-set) ∙ c.loop-rest.invariant.2

pub returns : goal.returns
returns c =
    rw c.digit-2.ensures
    (digit_one c.loop-rest.line c.loop-rest.i c.loop-rest.rest (omega arith) (omega arith) (omega arith) ∙ c.loop-rest.invariant.3)
