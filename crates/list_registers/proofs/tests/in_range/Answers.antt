-- `in_range` meets its contract.
use Rattle.std.proofs.Common.{◌∙◌, rules, tests}
use Rattle.std.proofs.lemmas.Iterator.{YieldsList-from_slice}
use Rattle.std.proofs.lemmas.Iterator.Search.{all_from_yields_List}
use Rattle.sequences.proofs.Recursions.{all_is}
use Rattle.registers.specs.Registers.{is_rank}
use Rattle.list_registers.proofs.tests.in_range.Goals as goal

pub returns : goal.returns
returns c =
    let xs = c.args.list.now in
    all_from_yields_List is_rank _ _ _ c.all.ensures.ran (YieldsList-from_slice xs cc) (λ x b q k. search (rules, tests)) ∙ all_is is_rank xs
