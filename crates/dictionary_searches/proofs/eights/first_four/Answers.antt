-- `first_four` meets its contract.
use mathlib.Core.Path.{◌∙◌}
use Rattle.dictionary_searches.proofs.BigEndian.{four_bytes}
use Rattle.dictionary_searches.proofs.eights.first_four.Goals as goal

pub returns : goal.returns
returns c =
    c.four.ensures.0 ∙ four_bytes c.args.bytes.now c.requires
