-- `string_right` meets its contract: the characters of a name are looked at byte by byte.
use mathlib.Core.Path.{sym, ◌∙◌}
use Rattle.dictionary_tests.proofs.Plain.{name_right}
use Rattle.dictionary_tests.proofs.strings.string_right.Goals as goal

pub returns-in-Names : goal.returns-in-Names
returns-in-Names c = c.iri_right.ensures ∙ name_right c.args.kind c.args.s.now c.in-Names.is (sym c.well_formed-2.ensures ∙ c.if-well_formed.true)
