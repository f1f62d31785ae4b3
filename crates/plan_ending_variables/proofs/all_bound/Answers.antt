-- `all_bound` meets its contract: some branch binds each variable.
use mathlib.Core.Path.{◌∙◌}
use borrow.Author.Tests.{tests}
use Rattle.std.proofs.Common.{rules}
use Rattle.std.proofs.lemmas.Iterator.{YieldsList-from_slice}
use Rattle.std.proofs.lemmas.Iterator.Search.{all_from_yields_List}
use Rattle.plans.specs.Branches.{binds}
use Rattle.plans.specs.Reading.{branches_in}
use Rattle.plans.proofs.Chains.{all_all}
use Rattle.plan_ending_variables.proofs.all_bound.Goals as goal

pub returns : goal.returns
returns c =
    let f = binds (branches_in c.args.count c.args.p.now) in
    all_from_yields_List f _ _ _ c.all.ensures.ran (YieldsList-from_slice c.args.list.now cc) (λ x b q k. search (rules, tests))
    ∙ all_all f c.args.list.now
