-- `stands_before` meets its contract.
use mathlib.Core.Path.{ap₂, ◌∙◌}
use Rattle.dictionaries.specs.Strings.{string_before}
use Rattle.dictionary_searches.proofs.stands_before.Goals as goal

pub returns : goal.returns
returns c = c.eights_before.ensures ∙ ap₂ string_before c.string-x.ensures c.string-y.ensures
