-- `all_places` meets its contract: the kind of each word is tested.
use mathlib.Core.Path.{◌∙◌}
use borrow.Author.Tests.{tests}
use Rattle.std.proofs.Common.{rules}
use Rattle.std.proofs.lemmas.Iterator.{YieldsList-from_slice}
use Rattle.std.proofs.lemmas.Iterator.Search.{all_from_yields_List}
use Rattle.plans.proofs.Chains.{all_all}
use Rattle.steps.specs.Saved.{is_place}
use Rattle.state_forms.proofs.all_places.Goals as goal

pub returns : goal.returns
returns c =
    all_from_yields_List is_place _ _ _ c.all.ensures.ran (YieldsList-from_slice c.args.state.now cc) (λ x b q k. search (rules, tests))
    ∙ all_all is_place c.args.state.now
