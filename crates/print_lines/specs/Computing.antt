-- One name that opens every definition of this crate, for proofs that compute.
use Rattle.print_texts.specs.Texts.{digits_in, decimal, integer_text, value_text, term_text, fields}
use Rattle.print_lines.specs.Lines.{row_line, group_fields, group_line, list_line, refused_line, turn_line}

unfoldable pub computing : Unit {0}
unfolding digits_in decimal integer_text value_text term_text fields row_line group_fields group_line list_line refused_line turn_line
computing = tt
