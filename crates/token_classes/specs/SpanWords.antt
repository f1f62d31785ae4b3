-- Spans in lent words: each is two words, its least and its greatest. Assumes nothing: these are definitions.
use Rattle.std.specs.Prelude.{ℕ, List, [], ◌∷◌}
use Rattle.dictionaries.specs.Utf8.{Span, span}

unfoldable pub spans_of : List ℕ → List Span
spans_of [] = []
spans_of (a ∷ []) = []
spans_of (a ∷ b ∷ ws) = span a b ∷ spans_of ws

-- [164] the spans of names as words, to be lent
abbrev pub name_words : List ℕ
name_words =
    0x41 ∷ 0x5A ∷ 0x61 ∷ 0x7A ∷ 0xC0 ∷ 0xD6 ∷ 0xD8 ∷ 0xF6 ∷ 0xF8 ∷ 0x2FF ∷ 0x370 ∷ 0x37D ∷ 0x37F ∷ 0x1FFF
    ∷ 0x200C ∷ 0x200D ∷ 0x2070 ∷ 0x218F ∷ 0x2C00 ∷ 0x2FEF ∷ 0x3001 ∷ 0xD7FF
    ∷ 0xF900 ∷ 0xFDCF ∷ 0xFDF0 ∷ 0xFFFD ∷ 0x10000 ∷ 0xEFFFF ∷ []
