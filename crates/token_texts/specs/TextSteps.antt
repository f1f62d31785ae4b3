-- A text character by character: what each makes of it. Assumes nothing: these are definitions.
use Rattle.std.specs.Prelude.{ℕ, ◌+◌, Bool, cond, ◌&&◌, ◌||◌, not, List, Result, Ok, Err, eqb}
use Rattle.characters.specs.Sequences.{no_point}
use Rattle.characters.specs.Escapes.{backslash}
use Rattle.tokens.specs.declared.TokenKind.TheVariants as kind
use Rattle.tokens.specs.declared.Token.{Token}
use Rattle.tokens.specs.Classes.{is_line_end, is_text_escape}
use Rattle.tokens.specs.Runs.{first_is}
use Rattle.tokens.specs.Numerals.{token}
use Rattle.tokens.specs.Texts.{wrong_at, two_more}
use Rattle.token_texts.specs.declared.TextEnding.{TextEnding}
use Rattle.token_texts.specs.declared.TextEnding.TheVariants as ending

-- what stands behind a backslash makes of it
abbrev pub escape_step : ℕ → Result ℕ TextEnding
escape_step c = cond (is_text_escape c) (Ok 2) (Err ending.WrongEscape)

unfoldable pub text_step : Bool → ℕ → ℕ → List ℕ → Result ℕ TextEnding
text_step long q c cs =
    cond (eqb c q && (not long || two_more q cs)) (Err ending.Closed)
    (cond (eqb c no_point) (Err ending.BadByte)
    (cond (eqb c backslash) (cond (first_is is_text_escape cs) (Ok 2) (Err ending.WrongEscape))
    (cond (is_line_end c && not long) (Err ending.Unended) (Ok 1))))

-- the token of a text that ends so, of which n characters are read
abbrev pub text_end : TextEnding → Bool → ℕ → Token
text_end ending.Closed long n = token kind.QuotedText (cond long (n + 3) (n + 1))
text_end ending.BadByte long n = wrong_at kind.BadByte n
text_end ending.WrongEscape long n = wrong_at kind.WrongEscape n
text_end ending.Unended long n = token kind.Unended n
