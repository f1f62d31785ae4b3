-- `same_string` meets its contract.
use mathlib.Core.Path.{◌∙◌}
use Rattle.terminal_letters.proofs.Comparing.{same_by_each}
use Rattle.terminal_letters.proofs.same_string.Goals as goal

pub returns : goal.returns
returns c = c.eq.ensures ∙ same_by_each c.args.a.now c.args.b.now
