-- `Term::is_value` meets its contract: the words of a delivered row are those up to unbound.
use native.Mathlib.Omega.{arith}
use Rattle.words.proofs.Ranks.{value_up_to}
use Rattle.words.proofs.Term.is_value.Goals as goal

pub returns : goal.returns
returns c = value_up_to c.args.self.0 (omega arith)
