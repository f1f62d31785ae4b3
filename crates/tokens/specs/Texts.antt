-- Texts in quotes [156-160]. Assumes nothing: these are definitions.
use Rattle.std.specs.Prelude.{ℕ, zero, suc, ◌+◌, Bool, true, false, cond, ◌&&◌, ◌||◌, not, List, [], ◌∷◌, eqb, drop}
use Rattle.characters.specs.Sequences.{no_point}
use Rattle.characters.specs.Escapes.{backslash}
use Rattle.tokens.specs.declared.TokenKind.{TokenKind}
use Rattle.tokens.specs.declared.TokenKind.TheVariants as kind
use Rattle.tokens.specs.declared.Token.{Token}
use Rattle.tokens.specs.Classes.{is_line_end, is_text_escape}
use Rattle.tokens.specs.Runs.{first_is, starts_with}
use Rattle.tokens.specs.Numerals.{token}

-- a wrong token behind n characters, or of them
abbrev pub wrong_at : TokenKind → ℕ → Token
wrong_at k n = record { kind = k; start = n; size = 1 }

-- two more of a quote
abbrev pub two_more : ℕ → List ℕ → Bool
two_more q cs = starts_with q cs && starts_with q (drop 1 cs)

-- a text in quotes q, one or three (long), of which n characters are read and the next k are still of an escape.
-- A line ends no long one. A byte that is no UTF-8, or a backslash that begins no escape, is the token, where it stands;
-- a text without an end is one from its first quote on
unfoldable pub text_from : Bool → ℕ → ℕ → List ℕ → ℕ → Token
text_from long q k [] n = token kind.Unended n
text_from long q (suc k) (c ∷ cs) n = text_from long q k cs (n + 1)
text_from long q zero (c ∷ cs) n =
    cond (eqb c q && (not long || two_more q cs)) (token kind.QuotedText (cond long (n + 3) (n + 1)))
    (cond (eqb c no_point) (wrong_at kind.BadByte n)
    (cond (eqb c backslash) (cond (first_is is_text_escape cs) (text_from long q 1 cs (n + 1)) (wrong_at kind.WrongEscape n))
    (cond (is_line_end c && not long) (token kind.Unended n) (text_from long q 0 cs (n + 1)))))

-- behind the first quote: three quotes begin a long text
unfoldable pub text_of : ℕ → List ℕ → Token
text_of q cs = cond (two_more q cs) (text_from true q 0 (drop 2 cs) 3) (text_from false q 0 cs 1)
