-- `write_word` meets its contract: one word.
use native.Mathlib.Omega.{arith}
use Rattle.constants.proofs.Appending.{one_appended}
use Rattle.constants.proofs.write_word.Goals as goal

pub returns : goal.returns
returns c =
    let a = c.args in
    one_appended a.out.now a.at (omega arith) a.w
