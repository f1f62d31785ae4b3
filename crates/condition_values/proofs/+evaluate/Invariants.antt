use lib.ListN.{length}
use Rattle.condition_values.proofs.+evaluate.Given as goal

abbrev pub decreases-evaluate : goal.decreases-evaluate
decreases-evaluate l = length l.p.now
