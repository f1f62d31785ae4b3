-- SPARQL 1.1, 19.2: \u and four hexadecimal digits, \U and eight, anywhere in a text. Assumes nothing: these are definitions.
use Rattle.std.specs.Prelude.{ℕ, zero, suc, ◌+◌, ◌-◌, ◌*◌, Bool, cond, ◌&&◌, ◌||◌, List, [], ◌∷◌, eqb, ltb, leb}
use Rattle.dictionaries.specs.Utf8.{span, is_in}
use Rattle.characters.specs.declared.Character.{Character}
use Rattle.characters.specs.Sequences.{character, no_point}

-- [172] HEX: 0 to 9, A to F and a to f; what such a digit counts for, and 16 where it is none
unfoldable pub hex_digit : ℕ → ℕ
hex_digit b =
    cond (is_in (span 0x30 0x39) b) (b - 0x30)
    (cond (is_in (span 0x41 0x46) b) (b - 0x37)
    (cond (is_in (span 0x61 0x66) b) (b - 0x57) 16))

-- the number that the next `k` digits come to, behind some that came to `v`; no code point where one is no digit, or where it is past the last
unfoldable pub hex_from : ℕ → List ℕ → ℕ → ℕ
hex_from zero bs v = v
hex_from (suc k) [] v = no_point
hex_from (suc k) (b ∷ bs) v = cond (ltb (hex_digit b) 16 && ltb v no_point) (hex_from k bs (v * 16 + hex_digit b)) no_point

-- a code point that is no surrogate
abbrev pub is_scalar : ℕ → Bool
is_scalar v = ltb v 0xD800 || (leb 0xE000 v && ltb v no_point)

abbrev pub backslash : ℕ
backslash = 0x5C

-- the escape with the number `v` and `n` bytes after the backslash; one that names no character stays as it is
unfoldable pub escape_to : ℕ → ℕ → Character
escape_to v n = cond (is_scalar v) (character v n) (character backslash 0)

-- a backslash and the bytes behind it
unfoldable pub escape_of : List ℕ → Character
escape_of [] = character backslash 0
escape_of (b ∷ bs) = cond (eqb b 0x75) (escape_to (hex_from 4 bs 0) 5) (cond (eqb b 0x55) (escape_to (hex_from 8 bs 0) 9) (character backslash 0))
