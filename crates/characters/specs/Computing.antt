-- One name that opens every definition of this crate and what it reads UTF-8 by, for proofs that compute.
use Rattle.dictionaries.specs.Utf8.{after_first}
use Rattle.characters.specs.Sequences.{sequence_from, sequence_of}
use Rattle.characters.specs.Escapes.{hex_digit, hex_from, escape_to, escape_of}
use Rattle.characters.specs.Characters.{character_at, characters_from}

unfoldable pub computing : Unit {0}
unfolding after_first sequence_from sequence_of hex_digit hex_from escape_to escape_of character_at characters_from
computing = tt
