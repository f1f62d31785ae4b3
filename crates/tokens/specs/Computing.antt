-- One name that opens every definition of this crate and of characters, for proofs that compute.
use Rattle.characters.specs.Computing as characters
use Rattle.tokens.specs.Classes.{is_name_base, is_variable_character, is_name_character}
use Rattle.tokens.specs.Runs.{run_length, blanks_length, dotted_end}
use Rattle.tokens.specs.Numerals.{number_or, signed_or}
use Rattle.tokens.specs.Texts.{text_from, text_of}
use Rattle.tokens.specs.Tokens.{token_of, tag_end, tokens_from}

unfoldable pub computing : Unit {0}
unfolding characters.computing is_name_base is_variable_character is_name_character run_length blanks_length dotted_end number_or signed_or text_from text_of
    token_of tag_end tokens_from
computing = tt
