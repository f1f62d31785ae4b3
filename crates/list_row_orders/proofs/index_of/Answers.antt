-- `index_of` meets its contract.
use Rattle.std.proofs.Common.{◌∙◌, rules, tests, eqb, length, ap}
use Rattle.std.specs.Option.{unwrap_or}
use Rattle.std.proofs.lemmas.Iterator.{YieldsList-from_slice}
use Rattle.std.proofs.lemmas.Iterator.Search.{position_from_yields_List}
use Rattle.list_row_orders.proofs.Comparing.{index_found}
use Rattle.list_row_orders.proofs.index_of.Goals as goal

pub returns : goal.returns
returns c =
    let xs = c.args.words.now in
    let w = c.args.word in
    c.unwrap_or.ensures
    ∙ ap (λ o. unwrap_or o (length xs))
    (position_from_yields_List (λ x. eqb x w) _ _ _ c.position.ensures.ran (YieldsList-from_slice xs cc) (λ x b q k. search (rules, tests)))
    ∙ index_found w xs
