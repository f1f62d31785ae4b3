-- The classes that runs are of, and what stands behind the last character. Assumes nothing: these are definitions.
use Rattle.std.specs.Prelude.{ℕ, Bool}
use Rattle.tokens.specs.Classes.{is_word_character, is_digit, is_ascii_letter, is_iri_character, is_variable_character}
use Rattle.token_runs.specs.declared.RunClass.{RunClass}
use Rattle.token_runs.specs.declared.RunClass.TheVariants as class

abbrev pub is_of_class : RunClass → ℕ → Bool
is_of_class class.Word c = is_word_character c
is_of_class class.Digit c = is_digit c
is_of_class class.Letter c = is_ascii_letter c
is_of_class class.InIri c = is_iri_character c
is_of_class class.InVariable c = is_variable_character c

-- a number that is no character and in no class
abbrev pub past_end : ℕ
past_end = 0x110001
