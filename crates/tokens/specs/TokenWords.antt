-- Tokens as words, three each: the number of its kind, its start and its size. Assumes nothing: these are definitions.
use Rattle.std.specs.Prelude.{ℕ, List, [], ◌∷◌}
use Rattle.tokens.specs.declared.TokenKind.{TokenKind}
use Rattle.tokens.specs.declared.TokenKind.TheVariants as kind
use Rattle.tokens.specs.declared.Token.{Token}

abbrev pub kind_number : TokenKind → ℕ
kind_number kind.End = 0
kind_number kind.Word = 1
kind_number kind.Variable = 2
kind_number kind.Iri = 3
kind_number kind.PrefixedName = 4
kind_number kind.BlankLabel = 5
kind_number kind.LanguageTag = 6
kind_number kind.Integer = 7
kind_number kind.Decimal = 8
kind_number kind.Double = 9
kind_number kind.QuotedText = 10
kind_number kind.Sign = 11
kind_number kind.BadByte = 12
kind_number kind.NoToken = 13
kind_number kind.Unended = 14
kind_number kind.WrongEscape = 15

abbrev pub token_words : List Token → List ℕ
token_words [] = []
token_words (t ∷ ts) = kind_number t.kind ∷ t.start ∷ t.size ∷ token_words ts
