-- `among` meets its contract: what `contains` answers.
use mathlib.Core.Path.{◌∙◌}
use Rattle.plans.proofs.Chains.{any_member}
use Rattle.plans.proofs.searches.among.Goals as goal

pub returns : goal.returns
returns c = c.contains.ensures.value ∙ any_member c.args.word c.args.words.now
