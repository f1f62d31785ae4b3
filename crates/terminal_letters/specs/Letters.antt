-- The classes of characters that runs are of. Assumes nothing: these are definitions.
use Rattle.std.specs.Prelude.{ℕ, Bool}
use Rattle.tokens.specs.Classes.{is_digit}
use Rattle.terminals.specs.Names.{is_no_colon, is_scheme_character}
use Rattle.terminal_letters.specs.declared.Letters.{Letters}
use Rattle.terminal_letters.specs.declared.Letters.TheVariants as run

abbrev pub is_letter_of : Letters → ℕ → Bool
is_letter_of run.NoColon c = is_no_colon c
is_letter_of run.Scheme c = is_scheme_character c
is_letter_of run.Digits c = is_digit c
