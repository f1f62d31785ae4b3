-- The classes of characters that the terminals of SPARQL 1.1's grammar are made of; numbers in brackets are its productions (19.8).
-- A byte that is no UTF-8 is in none. Assumes nothing: these are definitions.
use Rattle.std.specs.Prelude.{ℕ, Bool, ◌&&◌, ◌||◌, not, List, [], ◌∷◌, eqb, ltb}
use Rattle.std.specs.List.{list_any}
use Rattle.dictionaries.specs.Utf8.{Span, span, is_in}
use Rattle.characters.specs.Sequences.{no_point}
use Rattle.characters.specs.Escapes.{hex_digit}

abbrev pub in_spans : List Span → ℕ → Bool
in_spans ss c = list_any (λ s. is_in s c) ss

abbrev pub is_one_of : List ℕ → ℕ → Bool
is_one_of cs c = list_any (λ a. eqb c a) cs

abbrev pub is_digit : ℕ → Bool
is_digit c = is_in (span 0x30 0x39) c

abbrev pub is_ascii_letter : ℕ → Bool
is_ascii_letter c = in_spans (span 0x41 0x5A ∷ span 0x61 0x7A ∷ []) c

-- [162] WS: space, tab, carriage return, line feed
abbrev pub is_blank : ℕ → Bool
is_blank c = is_one_of (0x20 ∷ 0x09 ∷ 0x0D ∷ 0x0A ∷ []) c

-- what ends a line, a comment and a text in one quote
abbrev pub is_line_end : ℕ → Bool
is_line_end c = is_one_of (0x0A ∷ 0x0D ∷ []) c

-- a letter, a digit or _ : what a word goes on with
abbrev pub is_word_character : ℕ → Bool
is_word_character c = is_ascii_letter c || (is_digit c || eqb c 0x5F)

-- [139] IRIREF: none up to a space, and none of < > " { } | ^ ` \
abbrev pub is_iri_character : ℕ → Bool
is_iri_character c = ltb 0x20 c && (ltb c no_point && not (is_one_of (0x3C ∷ 0x3E ∷ 0x22 ∷ 0x7B ∷ 0x7D ∷ 0x7C ∷ 0x5E ∷ 0x60 ∷ 0x5C ∷ []) c))

-- [164] PN_CHARS_BASE
abbrev pub name_spans : List Span
name_spans =
    span 0x41 0x5A ∷ span 0x61 0x7A ∷ span 0xC0 0xD6 ∷ span 0xD8 0xF6 ∷ span 0xF8 0x2FF ∷ span 0x370 0x37D ∷ span 0x37F 0x1FFF
    ∷ span 0x200C 0x200D ∷ span 0x2070 0x218F ∷ span 0x2C00 0x2FEF ∷ span 0x3001 0xD7FF ∷ span 0xF900 0xFDCF ∷ span 0xFDF0 0xFFFD
    ∷ span 0x10000 0xEFFFF ∷ []

unfoldable pub is_name_base : ℕ → Bool
is_name_base c = in_spans name_spans c

-- [165] PN_CHARS_U
abbrev pub is_name_letter : ℕ → Bool
is_name_letter c = is_name_base c || eqb c 0x5F

-- what [166] and [167] add: U+00B7, U+0300 to U+036F, U+203F and U+2040
abbrev pub is_name_mark : ℕ → Bool
is_name_mark c = in_spans (span 0xB7 0xB7 ∷ span 0x300 0x36F ∷ span 0x203F 0x2040 ∷ []) c

-- [166] VARNAME: its first character, and the others
abbrev pub begins_variable : ℕ → Bool
begins_variable c = is_name_letter c || is_digit c

unfoldable pub is_variable_character : ℕ → Bool
is_variable_character c = begins_variable c || is_name_mark c

-- [167] PN_CHARS
unfoldable pub is_name_character : ℕ → Bool
is_name_character c = is_variable_character c || eqb c 0x2D

-- [172] HEX
abbrev pub is_hex_digit : ℕ → Bool
is_hex_digit c = ltb (hex_digit c) 16

-- [173] PN_LOCAL_ESC, behind its backslash: _ ~ . - ! $ & ' ( ) * + , ; = / ? # @ %
abbrev pub is_name_escape : ℕ → Bool
is_name_escape c =
    is_one_of
    (0x5F ∷ 0x7E ∷ 0x2E ∷ 0x2D ∷ 0x21 ∷ 0x24 ∷ 0x26 ∷ 0x27 ∷ 0x28 ∷ 0x29
    ∷ 0x2A ∷ 0x2B ∷ 0x2C ∷ 0x3B ∷ 0x3D ∷ 0x2F ∷ 0x3F ∷ 0x23 ∷ 0x40 ∷ 0x25 ∷ [])
    c

-- [160] ECHAR, behind its backslash: t b n r f \ " '
abbrev pub is_text_escape : ℕ → Bool
is_text_escape c = is_one_of (0x74 ∷ 0x62 ∷ 0x6E ∷ 0x72 ∷ 0x66 ∷ 0x5C ∷ 0x22 ∷ 0x27 ∷ []) c

-- a sign of the grammar that is a token by itself: { } ( ) [ ] . ; , * / | ^ ? ! = < > + -
abbrev pub is_sign : ℕ → Bool
is_sign c =
    is_one_of
    (0x7B ∷ 0x7D ∷ 0x28 ∷ 0x29 ∷ 0x5B ∷ 0x5D ∷ 0x2E ∷ 0x3B ∷ 0x2C ∷ 0x2A
    ∷ 0x2F ∷ 0x7C ∷ 0x5E ∷ 0x3F ∷ 0x21 ∷ 0x3D ∷ 0x3C ∷ 0x3E ∷ 0x2B ∷ 0x2D ∷ [])
    c
