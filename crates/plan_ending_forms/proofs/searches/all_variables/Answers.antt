-- `all_variables` meets its contract: each word is tested.
use mathlib.Core.Path.{◌∙◌}
use Rattle.std.proofs.Common.{rules}
use Rattle.std.proofs.lemmas.Iterator.{YieldsList-from_slice}
use Rattle.std.proofs.lemmas.Iterator.Search.{all_from_yields_List}
use borrow.Author.Tests.{tests}
use Rattle.plans.proofs.Chains.{all_all}
use Rattle.words.specs.Words.{is_variable}
use Rattle.plan_ending_forms.proofs.searches.all_variables.Goals as goal

pub returns : goal.returns
returns c =
    all_from_yields_List is_variable _ _ _ c.all.ensures.ran (YieldsList-from_slice c.args.words.now cc) (λ x b q k. search (rules, tests))
    ∙ all_all is_variable c.args.words.now
