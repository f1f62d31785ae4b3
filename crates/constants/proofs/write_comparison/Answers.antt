-- `write_comparison` meets its contract: three words.
use native.Mathlib.Omega.{arith}
use lib.ListN.{length-set}
use Rattle.constants.proofs.Appending.{comparison_appended}
use Rattle.constants.proofs.write_comparison.Goals as goal

pub bounds-out-at-2 : goal.bounds-out-at-2
bounds-out-at-2 c = simp length-set (omega arith)

pub bounds-out-at-3 : goal.bounds-out-at-3
bounds-out-at-3 c = simp length-set (omega arith)

pub returns : goal.returns
returns c =
    let a = c.args in
    comparison_appended a.out.now a.at (omega arith) a.o a.x a.y c.comparison.result.0 (omega arith) c.comparison.ensures
