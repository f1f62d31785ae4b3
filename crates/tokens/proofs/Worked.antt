-- Worked cases, by computation: literal bytes, and the tokens that they are read as, by characters. A case for each production of the grammar's terminals.
use Prim.Native.Nat.{ℕ}
use mathlib.Core.Path.{◌≡◌, refl}
use mathlib.Core.List.{List, [], ◌∷◌}
use Rattle.characters.specs.Characters.{points_of}
use Rattle.tokens.specs.declared.TokenKind.{TokenKind}
use Rattle.tokens.specs.declared.TokenKind.TheVariants as kind
use Rattle.tokens.specs.declared.Token.{Token}
use Rattle.tokens.specs.Tokens.{tokens_of}
use Rattle.tokens.specs.Computing.{computing}

abbrev at : TokenKind → ℕ → ℕ → Token
at k s n = record { kind = k; start = s; size = n }

-- some bytes are read as these tokens
abbrev TokensRead : List ℕ → List Token → Type 0
TokensRead bytes ts = tokens_of (points_of bytes) ≡ ts

-- [139] ?x<5&&?y>3: the longest that fits
iri_longest : TokensRead
    (0x3F ∷ 0x78 ∷ 0x3C ∷ 0x35 ∷ 0x26 ∷ 0x26 ∷ 0x3F ∷ 0x79 ∷ 0x3E ∷ 0x33 ∷ [])
    (at kind.Variable 0 2 ∷ at kind.Iri 2 7 ∷ at kind.Integer 9 1 ∷ at kind.End 10 0 ∷ [])
unfolding computing
iri_longest = refl

-- [139] <a b> is none; <= and <
iri_none : TokensRead
    (0x3C ∷ 0x61 ∷ 0x20 ∷ 0x62 ∷ 0x3E ∷ 0x3D ∷ 0x3C ∷ 0x3D ∷ 0x3C ∷ [])
    (at kind.Sign 0 1 ∷ at kind.Word 1 1 ∷ at kind.Word 3 1 ∷ at kind.Sign 4 2 ∷ at kind.Sign 6 2 ∷ at kind.Sign 8 1
    ∷ at kind.End 9 0 ∷ [])
unfolding computing
iri_none = refl

-- [139] a byte that is no UTF-8 within an IRI
iri_bad_byte : TokensRead
    (0x3C ∷ 0x61 ∷ 0xFF ∷ 0x62 ∷ 0x3E ∷ [])
    (at kind.BadByte 2 1 ∷ at kind.Word 3 1 ∷ at kind.Sign 4 1 ∷ at kind.End 5 0 ∷ [])
unfolding computing
iri_bad_byte = refl

-- [140,141,168,169] a-b:c a.b:c.d. ex:.a :: a: - dots within and not at the end, no dot first
names : TokensRead
    (0x61 ∷ 0x2D ∷ 0x62 ∷ 0x3A ∷ 0x63 ∷ 0x20 ∷ 0x61 ∷ 0x2E ∷ 0x62 ∷ 0x3A ∷ 0x63 ∷ 0x2E ∷ 0x64 ∷ 0x2E ∷ 0x20
    ∷ 0x65 ∷ 0x78 ∷ 0x3A ∷ 0x2E ∷ 0x61 ∷ 0x20 ∷ 0x3A ∷ 0x3A ∷ [])
    (at kind.PrefixedName 0 5 ∷ at kind.PrefixedName 6 7 ∷ at kind.Sign 13 1 ∷ at kind.PrefixedName 15 3 ∷ at kind.Sign 18 1
    ∷ at kind.Word 19 1 ∷ at kind.PrefixedName 21 2 ∷ at kind.End 23 0 ∷ [])
unfolding computing
names = refl

-- [164] U+00E9 in a prefix; without a colon it begins nothing
names_above_ascii : TokensRead
    (0x61 ∷ 0xC3 ∷ 0xA9 ∷ 0x3A ∷ 0x62 ∷ 0x20 ∷ 0x61 ∷ 0xC3 ∷ 0xA9 ∷ [])
    (at kind.PrefixedName 0 4 ∷ at kind.Word 5 1 ∷ at kind.NoToken 6 1 ∷ at kind.End 7 0 ∷ [])
unfolding computing
names_above_ascii = refl

-- [164] U+00D7 and U+037E are in no name, U+0300 in none at its front [167]
names_holes : TokensRead
    (0x61 ∷ 0xC3 ∷ 0x97 ∷ 0x3A ∷ 0x62 ∷ 0x20 ∷ 0x61 ∷ 0xCD ∷ 0xBE ∷ 0x3A ∷ 0x62 ∷ 0x20 ∷ 0xCC ∷ 0x80 ∷ 0x3A
    ∷ 0x62 ∷ [])
    (at kind.Word 0 1 ∷ at kind.NoToken 1 1 ∷ at kind.PrefixedName 2 2 ∷ at kind.Word 5 1 ∷ at kind.NoToken 6 1
    ∷ at kind.PrefixedName 7 2 ∷ at kind.NoToken 10 1 ∷ at kind.PrefixedName 11 2 ∷ at kind.End 13 0 ∷ [])
unfolding computing
names_holes = refl

-- a-b c: words and a sign
no_prefix : TokensRead
    (0x61 ∷ 0x2D ∷ 0x62 ∷ 0x20 ∷ 0x63 ∷ [])
    (at kind.Word 0 1 ∷ at kind.Sign 1 1 ∷ at kind.Word 2 1 ∷ at kind.Word 4 1 ∷ at kind.End 5 0 ∷ [])
unfolding computing
no_prefix = refl

-- [170-173] ex:a%20 ex:a\-b, and ex:a%2 ex:a\q, where none stands
plx : TokensRead
    (0x65 ∷ 0x78 ∷ 0x3A ∷ 0x61 ∷ 0x25 ∷ 0x32 ∷ 0x30 ∷ 0x20 ∷ 0x65 ∷ 0x78 ∷ 0x3A ∷ 0x61 ∷ 0x5C ∷ 0x2D ∷ 0x62
    ∷ 0x20 ∷ 0x65 ∷ 0x78 ∷ 0x3A ∷ 0x61 ∷ 0x25 ∷ 0x32 ∷ 0x20 ∷ 0x65 ∷ 0x78 ∷ 0x3A ∷ 0x61 ∷ 0x5C ∷ 0x71 ∷ [])
    (at kind.PrefixedName 0 7 ∷ at kind.PrefixedName 8 7 ∷ at kind.PrefixedName 16 4 ∷ at kind.NoToken 20 1 ∷ at kind.Integer 21 1
    ∷ at kind.PrefixedName 23 4 ∷ at kind.WrongEscape 27 1 ∷ at kind.Word 28 1 ∷ at kind.End 29 0 ∷ [])
unfolding computing
plx = refl

-- [169] ex:1.5 is one name
local_digits : TokensRead
    (0x65 ∷ 0x78 ∷ 0x3A ∷ 0x31 ∷ 0x2E ∷ 0x35 ∷ [])
    (at kind.PrefixedName 0 6 ∷ at kind.End 6 0 ∷ [])
unfolding computing
local_digits = refl

-- [142] _:b1. and _x
blank_labels : TokensRead
    (0x5F ∷ 0x3A ∷ 0x62 ∷ 0x31 ∷ 0x2E ∷ 0x20 ∷ 0x5F ∷ 0x78 ∷ [])
    (at kind.BlankLabel 0 4 ∷ at kind.Sign 4 1 ∷ at kind.NoToken 6 1 ∷ at kind.Word 7 1 ∷ at kind.End 8 0 ∷ [])
unfolding computing
blank_labels = refl

-- [143,144,166] ?x1 $_ ?2, ? alone, $ alone, ?x-5
variables : TokensRead
    (0x3F ∷ 0x78 ∷ 0x31 ∷ 0x20 ∷ 0x24 ∷ 0x5F ∷ 0x20 ∷ 0x3F ∷ 0x32 ∷ 0x20 ∷ 0x3F ∷ 0x20 ∷ 0x24 ∷ 0x20 ∷ 0x3F
    ∷ 0x78 ∷ 0x2D ∷ 0x35 ∷ [])
    (at kind.Variable 0 3 ∷ at kind.Variable 4 2 ∷ at kind.Variable 7 2 ∷ at kind.Sign 10 1 ∷ at kind.NoToken 12 1
    ∷ at kind.Variable 14 2 ∷ at kind.Integer 16 2 ∷ at kind.End 18 0 ∷ [])
unfolding computing
variables = refl

-- [145] @en-GB1 @en- @
language_tags : TokensRead
    (0x40 ∷ 0x65 ∷ 0x6E ∷ 0x2D ∷ 0x47 ∷ 0x42 ∷ 0x31 ∷ 0x20 ∷ 0x40 ∷ 0x65 ∷ 0x6E ∷ 0x2D ∷ 0x20 ∷ 0x40 ∷ [])
    (at kind.LanguageTag 0 7 ∷ at kind.LanguageTag 8 3 ∷ at kind.Sign 11 1 ∷ at kind.NoToken 13 1 ∷ at kind.End 14 0 ∷ [])
unfolding computing
language_tags = refl

-- [146,149,152] 12. -5 +7 --5
integers : TokensRead
    (0x31 ∷ 0x32 ∷ 0x2E ∷ 0x20 ∷ 0x2D ∷ 0x35 ∷ 0x20 ∷ 0x2B ∷ 0x37 ∷ 0x20 ∷ 0x2D ∷ 0x2D ∷ 0x35 ∷ [])
    (at kind.Integer 0 2 ∷ at kind.Sign 2 1 ∷ at kind.Integer 4 2 ∷ at kind.Integer 7 2 ∷ at kind.Sign 10 1 ∷ at kind.Integer 11 2
    ∷ at kind.End 13 0 ∷ [])
unfolding computing
integers = refl

-- [147] 12.5 .5 1.2.3 -.5
decimals : TokensRead
    (0x31 ∷ 0x32 ∷ 0x2E ∷ 0x35 ∷ 0x20 ∷ 0x2E ∷ 0x35 ∷ 0x20 ∷ 0x31 ∷ 0x2E ∷ 0x32 ∷ 0x2E ∷ 0x33 ∷ 0x20 ∷ 0x2D
    ∷ 0x2E ∷ 0x35 ∷ [])
    (at kind.Decimal 0 4 ∷ at kind.Decimal 5 2 ∷ at kind.Decimal 8 3 ∷ at kind.Decimal 11 2 ∷ at kind.Decimal 14 3
    ∷ at kind.End 17 0 ∷ [])
unfolding computing
decimals = refl

-- [148,155] 1e5 1.e5 +.5e-3 and 1e 5.e, which are none
doubles : TokensRead
    (0x31 ∷ 0x65 ∷ 0x35 ∷ 0x20 ∷ 0x31 ∷ 0x2E ∷ 0x65 ∷ 0x35 ∷ 0x20 ∷ 0x2B ∷ 0x2E ∷ 0x35 ∷ 0x45 ∷ 0x2D ∷ 0x33
    ∷ 0x20 ∷ 0x31 ∷ 0x65 ∷ 0x20 ∷ 0x35 ∷ 0x2E ∷ 0x65 ∷ [])
    (at kind.Double 0 3 ∷ at kind.Double 4 4 ∷ at kind.Double 9 6 ∷ at kind.Integer 16 1 ∷ at kind.Word 17 1
    ∷ at kind.Integer 19 1 ∷ at kind.Sign 20 1 ∷ at kind.Word 21 1 ∷ at kind.End 22 0 ∷ [])
unfolding computing
doubles = refl

-- [156,157,160] 'a' "a\"b" ''
texts : TokensRead
    (0x27 ∷ 0x61 ∷ 0x27 ∷ 0x20 ∷ 0x22 ∷ 0x61 ∷ 0x5C ∷ 0x22 ∷ 0x62 ∷ 0x22 ∷ 0x20 ∷ 0x27 ∷ 0x27 ∷ [])
    (at kind.QuotedText 0 3 ∷ at kind.QuotedText 4 6 ∷ at kind.QuotedText 11 2 ∷ at kind.End 13 0 ∷ [])
unfolding computing
texts = refl

-- [158,159] '''a''b\n''' with a line's end within, and """"""
long_texts : TokensRead
    (0x27 ∷ 0x27 ∷ 0x27 ∷ 0x61 ∷ 0x27 ∷ 0x27 ∷ 0x0A ∷ 0x62 ∷ 0x27 ∷ 0x27 ∷ 0x27 ∷ 0x20 ∷ 0x22 ∷ 0x22 ∷ 0x22
    ∷ 0x22 ∷ 0x22 ∷ 0x22 ∷ [])
    (at kind.QuotedText 0 11 ∷ at kind.QuotedText 12 6 ∷ at kind.End 18 0 ∷ [])
unfolding computing
long_texts = refl

-- 'a and the end of a line; '''a to the end of the text
texts_unended : TokensRead
    (0x27 ∷ 0x61 ∷ 0x0A ∷ 0x27 ∷ 0x27 ∷ 0x27 ∷ 0x61 ∷ [])
    (at kind.Unended 0 2 ∷ at kind.Unended 3 4 ∷ at kind.End 7 0 ∷ [])
unfolding computing
texts_unended = refl

-- [160] a wrong escape, and a byte that is no UTF-8, each where it stands
texts_wrong : TokensRead
    (0x27 ∷ 0x61 ∷ 0x5C ∷ 0x71 ∷ 0x20 ∷ 0x27 ∷ 0x61 ∷ 0xFF ∷ [])
    (at kind.WrongEscape 2 1 ∷ at kind.Word 3 1 ∷ at kind.BadByte 7 1 ∷ at kind.End 8 0 ∷ [])
unfolding computing
texts_wrong = refl

-- 19.2 first: \u0027 ends a text, \u000A a comment
text_escaped : TokensRead
    (0x27 ∷ 0x61 ∷ 0x5C ∷ 0x75 ∷ 0x30 ∷ 0x30 ∷ 0x32 ∷ 0x37 ∷ 0x20 ∷ 0x23 ∷ 0x62 ∷ 0x5C ∷ 0x75 ∷ 0x30 ∷ 0x30
    ∷ 0x30 ∷ 0x41 ∷ 0x63 ∷ [])
    (at kind.QuotedText 0 3 ∷ at kind.Word 7 1 ∷ at kind.End 8 0 ∷ [])
unfolding computing
text_escaped = refl

-- # to the end of a line; # within an IRI is none; a byte that is no UTF-8 in one
comments : TokensRead
    (0x61 ∷ 0x23 ∷ 0x62 ∷ 0x0D ∷ 0x3C ∷ 0x63 ∷ 0x23 ∷ 0x64 ∷ 0x3E ∷ 0x23 ∷ 0xFF ∷ [])
    (at kind.Word 0 1 ∷ at kind.Iri 4 5 ∷ at kind.BadByte 10 1 ∷ at kind.End 11 0 ∷ [])
unfolding computing
comments = refl

-- LIMIT10 is one word, 5a two tokens, true a word
words : TokensRead
    (0x4C ∷ 0x49 ∷ 0x4D ∷ 0x49 ∷ 0x54 ∷ 0x31 ∷ 0x30 ∷ 0x20 ∷ 0x35 ∷ 0x61 ∷ 0x20 ∷ 0x74 ∷ 0x72 ∷ 0x75 ∷ 0x65
    ∷ [])
    (at kind.Word 0 7 ∷ at kind.Integer 8 1 ∷ at kind.Word 9 1 ∷ at kind.Word 11 4 ∷ at kind.End 15 0 ∷ [])
unfolding computing
words = refl

-- () [] are two tokens each; && || ^^ != >= one; & alone none
signs : TokensRead
    (0x28 ∷ 0x29 ∷ 0x5B ∷ 0x5D ∷ 0x26 ∷ 0x26 ∷ 0x7C ∷ 0x7C ∷ 0x5E ∷ 0x5E ∷ 0x21 ∷ 0x3D ∷ 0x3E ∷ 0x3D ∷ 0x26
    ∷ 0x7C ∷ 0x5E ∷ 0x21 ∷ 0x3E ∷ [])
    (at kind.Sign 0 1 ∷ at kind.Sign 1 1 ∷ at kind.Sign 2 1 ∷ at kind.Sign 3 1 ∷ at kind.Sign 4 2 ∷ at kind.Sign 6 2
    ∷ at kind.Sign 8 2 ∷ at kind.Sign 10 2 ∷ at kind.Sign 12 2 ∷ at kind.NoToken 14 1 ∷ at kind.Sign 15 1 ∷ at kind.Sign 16 1
    ∷ at kind.Sign 17 1 ∷ at kind.Sign 18 1 ∷ at kind.End 19 0 ∷ [])
unfolding computing
signs = refl

-- { } . ; , * / =
other_signs : TokensRead
    (0x7B ∷ 0x7D ∷ 0x2E ∷ 0x3B ∷ 0x2C ∷ 0x2A ∷ 0x2F ∷ 0x3D ∷ [])
    (at kind.Sign 0 1 ∷ at kind.Sign 1 1 ∷ at kind.Sign 2 1 ∷ at kind.Sign 3 1 ∷ at kind.Sign 4 1 ∷ at kind.Sign 5 1
    ∷ at kind.Sign 6 1 ∷ at kind.Sign 7 1 ∷ at kind.End 8 0 ∷ [])
unfolding computing
other_signs = refl

-- a byte order mark, a backslash, ~
begin_nothing : TokensRead
    (0xEF ∷ 0xBB ∷ 0xBF ∷ 0x5C ∷ 0x7E ∷ [])
    (at kind.NoToken 0 1 ∷ at kind.WrongEscape 1 1 ∷ at kind.NoToken 2 1 ∷ at kind.End 3 0 ∷ [])
unfolding computing
begin_nothing = refl

-- no characters at all
no_text : TokensRead
    []
    (at kind.End 0 0 ∷ [])
unfolding computing
no_text = refl

-- [166,167] U+00B7 and U+203F go on with a variable and a prefix, and begin none; - goes on with a prefix
name_marks : TokensRead
    (0x3F ∷ 0x61 ∷ 0xC2 ∷ 0xB7 ∷ 0xE2 ∷ 0x80 ∷ 0xBF ∷ 0x20 ∷ 0x3F ∷ 0xC2 ∷ 0xB7 ∷ 0x20 ∷ 0x61 ∷ 0x2D ∷ 0x31
    ∷ 0xC2 ∷ 0xB7 ∷ 0x3A ∷ 0x62 ∷ [])
    (at kind.Variable 0 4 ∷ at kind.Sign 5 1 ∷ at kind.NoToken 6 1 ∷ at kind.PrefixedName 8 6 ∷ at kind.End 14 0 ∷ [])
unfolding computing
name_marks = refl

-- [173] every escape of a local name
name_escapes : TokensRead
    (0x65 ∷ 0x78 ∷ 0x3A ∷ 0x5C ∷ 0x5F ∷ 0x5C ∷ 0x7E ∷ 0x5C ∷ 0x2E ∷ 0x5C ∷ 0x2D ∷ 0x5C ∷ 0x21 ∷ 0x5C ∷ 0x24
    ∷ 0x5C ∷ 0x26 ∷ 0x5C ∷ 0x27 ∷ 0x5C ∷ 0x28 ∷ 0x5C ∷ 0x29 ∷ 0x5C ∷ 0x2A ∷ 0x5C ∷ 0x2B ∷ 0x5C ∷ 0x2C ∷ 0x5C
    ∷ 0x3B ∷ 0x5C ∷ 0x3D ∷ 0x5C ∷ 0x2F ∷ 0x5C ∷ 0x3F ∷ 0x5C ∷ 0x23 ∷ 0x5C ∷ 0x40 ∷ 0x5C ∷ 0x25 ∷ [])
    (at kind.PrefixedName 0 43 ∷ at kind.End 43 0 ∷ [])
unfolding computing
name_escapes = refl

-- [160] every escape of a text
text_escapes : TokensRead
    (0x27 ∷ 0x5C ∷ 0x74 ∷ 0x5C ∷ 0x62 ∷ 0x5C ∷ 0x6E ∷ 0x5C ∷ 0x72 ∷ 0x5C ∷ 0x66 ∷ 0x5C ∷ 0x5C ∷ 0x5C ∷ 0x22
    ∷ 0x5C ∷ 0x27 ∷ 0x27 ∷ [])
    (at kind.QuotedText 0 18 ∷ at kind.End 18 0 ∷ [])
unfolding computing
text_escapes = refl

-- [158] an escaped quote in a long text; a wrong escape in one
long_escapes : TokensRead
    (0x27 ∷ 0x27 ∷ 0x27 ∷ 0x5C ∷ 0x27 ∷ 0x27 ∷ 0x27 ∷ 0x27 ∷ 0x20 ∷ 0x22 ∷ 0x22 ∷ 0x22 ∷ 0x61 ∷ 0x5C ∷ 0x71 ∷ [])
    (at kind.QuotedText 0 8 ∷ at kind.WrongEscape 13 1 ∷ at kind.Word 14 1 ∷ at kind.End 15 0 ∷ [])
unfolding computing
long_escapes = refl

-- [139] < before each character that no IRI has
iri_characters : TokensRead
    (0x3C ∷ 0x7B ∷ 0x3E ∷ 0x20 ∷ 0x3C ∷ 0x7D ∷ 0x3E ∷ 0x20 ∷ 0x3C ∷ 0x7C ∷ 0x3E ∷ 0x20 ∷ 0x3C ∷ 0x5E ∷ 0x3E
    ∷ 0x20 ∷ 0x3C ∷ 0x60 ∷ 0x3E ∷ 0x20 ∷ 0x3C ∷ 0x3C ∷ 0x3E ∷ [])
    (at kind.Sign 0 1 ∷ at kind.Sign 1 1 ∷ at kind.Sign 2 1 ∷ at kind.Sign 4 1 ∷ at kind.Sign 5 1 ∷ at kind.Sign 6 1
    ∷ at kind.Sign 8 1 ∷ at kind.Sign 9 1 ∷ at kind.Sign 10 1 ∷ at kind.Sign 12 1 ∷ at kind.Sign 13 1 ∷ at kind.Sign 14 1
    ∷ at kind.Sign 16 1 ∷ at kind.NoToken 17 1 ∷ at kind.Sign 18 1 ∷ at kind.Sign 20 1 ∷ at kind.Iri 21 2 ∷ at kind.End 23 0
    ∷ [])
unfolding computing
iri_characters = refl

-- + and - without a number
plus_minus : TokensRead
    (0x2B ∷ 0x20 ∷ 0x2D ∷ 0x20 ∷ 0x2B ∷ 0x61 ∷ [])
    (at kind.Sign 0 1 ∷ at kind.Sign 2 1 ∷ at kind.Sign 4 1 ∷ at kind.Word 5 1 ∷ at kind.End 6 0 ∷ [])
unfolding computing
plus_minus = refl

-- a backslash before a byte that is no UTF-8, in a text: a wrong escape, and behind it the byte
text_bad_escape : TokensRead
    (0x27 ∷ 0x5C ∷ 0xFF ∷ [])
    (at kind.WrongEscape 1 1 ∷ at kind.BadByte 2 1 ∷ at kind.End 3 0 ∷ [])
unfolding computing
text_bad_escape = refl
