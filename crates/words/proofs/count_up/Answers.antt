-- `count_up` meets its contract.
use Rattle.std.proofs.Common.{arith}
use Rattle.std.proofs.lemmas.Grind.{common_steps}
use Rattle.sequences.proofs.Numbers.{numbers_none, numbers_next}
use Rattle.words.proofs.count_up.Goals as goal

pub loop-i-init : goal.loop-i-init
loop-i-init c = numbers_none

pub loop-i-preserved : goal.loop-i-preserved
loop-i-preserved c = grind (arith, common_steps, numbers_next)
