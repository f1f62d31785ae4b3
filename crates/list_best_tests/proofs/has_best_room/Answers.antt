-- `has_best_room` meets its contract: the merged list has the words of both, and at most those of k rows.
use mathlib.Core.Path.{◌∙◌, ap}
use lib.Dec.{leb}
use lib.ListN.{length}
use native.Mathlib.Omega.{arith}
use native.Mathlib.Nat.{mul-le-mul}
use Rattle.list_best.proofs.RightLists.{room_least}
use Rattle.list_best_tests.proofs.has_best_room.Goals as goal

pub overflow_mul-most : goal.overflow_mul-most
overflow_mul-most c = omega (arith, mul-le-mul c.requires.2 c.requires.1)

pub returns : goal.returns
returns c =
    λ keys best. ap (λ n. leb n (length c.args.kept.now)) c.min.ensures
    ∙ room_least c.args.k c.args.vars.now keys c.args.kept.now c.args.used c.args.list.now c.requires.0 c.requires.3 c.requires.4 best
