-- `each_right` meets its contract.
use mathlib.Core.Path.{sym, ◌∙◌}
use Rattle.dictionary_tests.proofs.strings.each_right.Goals as goal

pub plain_right-requires : goal.plain_right-requires
plain_right-requires c = record { ends_value = c.requires; bytes_value = sym c.is_ascii.ensures ∙ c.if-is_ascii.true }
