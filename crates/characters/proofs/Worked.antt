-- Worked cases, by computation: literal bytes, and the code points and places that they are read as.
use Prim.Native.Nat.{ℕ}
use mathlib.Core.Path.{◌≡◌, refl}
use mathlib.Core.List.{List, [], ◌∷◌}
use Rattle.characters.specs.Sequences.{no_point}
use Rattle.characters.specs.Characters.{points_of, places_of}
use Rattle.characters.specs.Computing.{computing}

-- some bytes, and what they are read as
record ReadAs (text points places : List ℕ) : Type 0 where
  points_read : points_of text ≡ points
  places_read : places_of text ≡ places

-- U+0024, U+00E9, U+20AC, U+1D11E: one to four bytes
lengths : ReadAs
    (0x24 ∷ 0xC3 ∷ 0xA9 ∷ 0xE2 ∷ 0x82 ∷ 0xAC ∷ 0xF0 ∷ 0x9D ∷ 0x84 ∷ 0x9E ∷ [])
    (0x24 ∷ 0xE9 ∷ 0x20AC ∷ 0x1D11E ∷ [])
    (0 ∷ 1 ∷ 3 ∷ 6 ∷ 10 ∷ [])
unfolding computing
lengths = record { points_read = refl; places_read = refl }

-- no text: its end alone
no_text : ReadAs
    []
    []
    (0 ∷ [])
unfolding computing
no_text = record { points_read = refl; places_read = refl }

-- an overlong form, a later byte alone, a sequence that another character cuts off, and one that the end does: byte by byte
bad_bytes : ReadAs
    (0xC0 ∷ 0xAF ∷ 0x80 ∷ 0xE2 ∷ 0x82 ∷ 0x41 ∷ 0xF0 ∷ 0x9D ∷ [])
    (no_point ∷ no_point ∷ no_point ∷ no_point ∷ no_point ∷ 0x41 ∷ no_point ∷ no_point ∷ [])
    (0 ∷ 1 ∷ 2 ∷ 3 ∷ 4 ∷ 5 ∷ 6 ∷ 7 ∷ 8 ∷ [])
unfolding computing
bad_bytes = record { points_read = refl; places_read = refl }

-- a surrogate, and what is past U+10FFFF
surrogate_bytes : ReadAs
    (0xED ∷ 0xA0 ∷ 0x80 ∷ 0xF4 ∷ 0x90 ∷ 0x80 ∷ 0x80 ∷ [])
    (no_point ∷ no_point ∷ no_point ∷ no_point ∷ no_point ∷ no_point ∷ no_point ∷ [])
    (0 ∷ 1 ∷ 2 ∷ 3 ∷ 4 ∷ 5 ∷ 6 ∷ 7 ∷ [])
unfolding computing
surrogate_bytes = record { points_read = refl; places_read = refl }

-- E\u0043T: an escape in a word
keyword_escaped : ReadAs
    (0x45 ∷ 0x5C ∷ 0x75 ∷ 0x30 ∷ 0x30 ∷ 0x34 ∷ 0x33 ∷ 0x54 ∷ [])
    (0x45 ∷ 0x43 ∷ 0x54 ∷ [])
    (0 ∷ 1 ∷ 7 ∷ 8 ∷ [])
unfolding computing
keyword_escaped = record { points_read = refl; places_read = refl }

-- \U0001D11E, and digits of both cases in \u00eA
eight_digits : ReadAs
    (0x5C ∷ 0x55 ∷ 0x30 ∷ 0x30 ∷ 0x30 ∷ 0x31 ∷ 0x44 ∷ 0x31 ∷ 0x31 ∷ 0x45 ∷ 0x5C ∷ 0x75 ∷ 0x30 ∷ 0x30 ∷ 0x65
    ∷ 0x41 ∷ [])
    (0x1D11E ∷ 0xEA ∷ [])
    (0 ∷ 10 ∷ 16 ∷ [])
unfolding computing
eight_digits = record { points_read = refl; places_read = refl }

-- \\u0041: of two backslashes neither begins an escape
two_backslashes : ReadAs
    (0x5C ∷ 0x5C ∷ 0x75 ∷ 0x30 ∷ 0x30 ∷ 0x34 ∷ 0x31 ∷ [])
    (0x5C ∷ 0x5C ∷ 0x75 ∷ 0x30 ∷ 0x30 ∷ 0x34 ∷ 0x31 ∷ [])
    (0 ∷ 1 ∷ 2 ∷ 3 ∷ 4 ∷ 5 ∷ 6 ∷ 7 ∷ [])
unfolding computing
two_backslashes = record { points_read = refl; places_read = refl }

-- \\\u0041: the third of three begins one
three_backslashes : ReadAs
    (0x5C ∷ 0x5C ∷ 0x5C ∷ 0x75 ∷ 0x30 ∷ 0x30 ∷ 0x34 ∷ 0x31 ∷ [])
    (0x5C ∷ 0x5C ∷ 0x41 ∷ [])
    (0 ∷ 1 ∷ 2 ∷ 8 ∷ [])
unfolding computing
three_backslashes = record { points_read = refl; places_read = refl }

-- \u005Cu0041, \u005C\u0041: what comes out of an escape begins none, and is no first of two
not_again : ReadAs
    (0x5C ∷ 0x75 ∷ 0x30 ∷ 0x30 ∷ 0x35 ∷ 0x43 ∷ 0x75 ∷ 0x30 ∷ 0x30 ∷ 0x34 ∷ 0x31 ∷ 0x5C ∷ 0x75 ∷ 0x30 ∷ 0x30
    ∷ 0x35 ∷ 0x43 ∷ 0x5C ∷ 0x75 ∷ 0x30 ∷ 0x30 ∷ 0x34 ∷ 0x31 ∷ [])
    (0x5C ∷ 0x75 ∷ 0x30 ∷ 0x30 ∷ 0x34 ∷ 0x31 ∷ 0x5C ∷ 0x41 ∷ [])
    (0 ∷ 6 ∷ 7 ∷ 8 ∷ 9 ∷ 10 ∷ 11 ∷ 17 ∷ 23 ∷ [])
unfolding computing
not_again = record { points_read = refl; places_read = refl }

-- \n\u0041: a backslash before another character is no first of two
backslash_first : ReadAs
    (0x5C ∷ 0x6E ∷ 0x5C ∷ 0x75 ∷ 0x30 ∷ 0x30 ∷ 0x34 ∷ 0x31 ∷ [])
    (0x5C ∷ 0x6E ∷ 0x41 ∷ [])
    (0 ∷ 1 ∷ 2 ∷ 8 ∷ [])
unfolding computing
backslash_first = record { points_read = refl; places_read = refl }

-- \uD800 and \U00110000 name no character, and stay
no_scalar : ReadAs
    (0x5C ∷ 0x75 ∷ 0x44 ∷ 0x38 ∷ 0x30 ∷ 0x30 ∷ 0x5C ∷ 0x55 ∷ 0x30 ∷ 0x30 ∷ 0x31 ∷ 0x31 ∷ 0x30 ∷ 0x30 ∷ 0x30
    ∷ 0x30 ∷ [])
    (0x5C ∷ 0x75 ∷ 0x44 ∷ 0x38 ∷ 0x30 ∷ 0x30 ∷ 0x5C ∷ 0x55 ∷ 0x30 ∷ 0x30 ∷ 0x31 ∷ 0x31 ∷ 0x30 ∷ 0x30 ∷ 0x30
    ∷ 0x30 ∷ [])
    (0 ∷ 1 ∷ 2 ∷ 3 ∷ 4 ∷ 5 ∷ 6 ∷ 7 ∷ 8 ∷ 9 ∷ 10 ∷ 11 ∷ 12 ∷ 13 ∷ 14 ∷ 15 ∷ 16 ∷ [])
unfolding computing
no_scalar = record { points_read = refl; places_read = refl }

-- \uD7FF, \uE000, \U0010FFFF: the last before the surrogates, the first after them, the last of all
last_scalars : ReadAs
    (0x5C ∷ 0x75 ∷ 0x44 ∷ 0x37 ∷ 0x46 ∷ 0x46 ∷ 0x5C ∷ 0x75 ∷ 0x45 ∷ 0x30 ∷ 0x30 ∷ 0x30 ∷ 0x5C ∷ 0x55 ∷ 0x30
    ∷ 0x30 ∷ 0x31 ∷ 0x30 ∷ 0x46 ∷ 0x46 ∷ 0x46 ∷ 0x46 ∷ [])
    (0xD7FF ∷ 0xE000 ∷ 0x10FFFF ∷ [])
    (0 ∷ 6 ∷ 12 ∷ 22 ∷ [])
unfolding computing
last_scalars = record { points_read = refl; places_read = refl }

-- \UFFFFFFFF: the greatest number of eight digits
far_number_lem : ReadAs
    (0x5C ∷ 0x55 ∷ 0x46 ∷ 0x46 ∷ 0x46 ∷ 0x46 ∷ 0x46 ∷ 0x46 ∷ 0x46 ∷ 0x46 ∷ [])
    (0x5C ∷ 0x55 ∷ 0x46 ∷ 0x46 ∷ 0x46 ∷ 0x46 ∷ 0x46 ∷ 0x46 ∷ 0x46 ∷ 0x46 ∷ [])
    (0 ∷ 1 ∷ 2 ∷ 3 ∷ 4 ∷ 5 ∷ 6 ∷ 7 ∷ 8 ∷ 9 ∷ 10 ∷ [])
unfolding computing
far_number_lem = record { points_read = refl; places_read = refl }

-- \u004G and \u004 at the end: digits are missing
few_digits : ReadAs
    (0x5C ∷ 0x75 ∷ 0x30 ∷ 0x30 ∷ 0x34 ∷ 0x47 ∷ 0x5C ∷ 0x75 ∷ 0x30 ∷ 0x30 ∷ 0x34 ∷ [])
    (0x5C ∷ 0x75 ∷ 0x30 ∷ 0x30 ∷ 0x34 ∷ 0x47 ∷ 0x5C ∷ 0x75 ∷ 0x30 ∷ 0x30 ∷ 0x34 ∷ [])
    (0 ∷ 1 ∷ 2 ∷ 3 ∷ 4 ∷ 5 ∷ 6 ∷ 7 ∷ 8 ∷ 9 ∷ 10 ∷ 11 ∷ [])
unfolding computing
few_digits = record { points_read = refl; places_read = refl }
