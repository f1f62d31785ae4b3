-- A word as a field of a line, by how it is shown. Assumes nothing: these are definitions.
use Rattle.std.specs.Prelude.{ℕ}
use Rattle.print_texts.specs.Texts.{Text, term_field, number_field}
use Rattle.print_terms.specs.declared.ShownAs.{ShownAs}
use Rattle.print_terms.specs.declared.ShownAs.TheVariants.{Term, Number}

abbrev pub field_as : ShownAs → ℕ → Text
field_as Term = term_field
field_as Number = number_field
