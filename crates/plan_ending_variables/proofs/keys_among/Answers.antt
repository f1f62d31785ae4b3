-- `keys_among` meets its contract: the variable of each key is among the list.
use mathlib.Core.Path.{◌∙◌}
use borrow.Author.Tests.{tests}
use Rattle.std.proofs.Common.{rules}
use Rattle.std.proofs.lemmas.Iterator.{YieldsList-from_slice}
use Rattle.std.proofs.lemmas.Iterator.Search.{all_from_yields_List}
use Rattle.plans.specs.Endings.{key_among}
use Rattle.plans.proofs.Chains.{all_all}
use Rattle.plan_ending_variables.proofs.keys_among.Goals as goal

pub returns : goal.returns
returns c =
    let f = key_among c.args.list.now in
    all_from_yields_List f _ _ _ c.all.ensures.ran (YieldsList-from_slice c.args.keys.now cc) (λ x b q k. search (rules, tests))
    ∙ all_all f c.args.keys.now
