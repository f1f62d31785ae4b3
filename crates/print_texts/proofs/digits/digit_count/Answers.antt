-- `digit_count` meets its contract: the digits counted and those of what is left are all.
use native.Mathlib.Omega.{arith}
use Rattle.print_texts.proofs.Decimals.{length_one, length_more}
use Rattle.print_texts.proofs.digits.digit_count.Goals as goal

pub loop-rest-init : goal.loop-rest-init
loop-rest-init c = (omega arith, omega arith)

pub loop-rest-preserved : goal.loop-rest-preserved
loop-rest-preserved c = let e = length_more c.loop-rest.rest (omega arith) in (omega arith, omega arith)

pub returns : goal.returns
returns c = let e = length_one c.loop-rest.rest (omega arith) in omega arith
