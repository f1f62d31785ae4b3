-- Dictionaries: strings in lent bytes, cut at lent ends; which are right, and where a string stands in one. Assumes nothing: these are definitions.
use Rattle.std.specs.Prelude.{ℕ, ◌+◌, ◌-◌, ◌≡◌, Bool, true, false, cond, ◌&&◌, ◌||◌, List, [], ◌∷◌, eqb, ltb, leb, length, take, drop, get_or}
use Rattle.sequences.specs.Sequences.{all, neighbours}
use Rattle.dictionaries.specs.Strings.{string_before, same_string}
use Rattle.dictionaries.specs.Utf8.{well_formed}

-- the part of `bytes` from `a` up to `e`
abbrev pub byte_range : List ℕ → ℕ → ℕ → List ℕ
byte_range bytes a e = take (e - a) (drop a bytes)

-- the strings that the ends cut off, from `a` on
unfoldable pub strings_from : List ℕ → ℕ → List ℕ → List (List ℕ)
strings_from bytes a [] = []
strings_from bytes a (e ∷ es) = byte_range bytes a e ∷ strings_from bytes e es

abbrev pub strings_of : List ℕ → List ℕ → List (List ℕ)
strings_of bytes ends = strings_from bytes 0 ends

-- the ends do not fall from `a` on, and the last is `n`, the number of bytes
unfoldable pub ends_right : ℕ → ℕ → List ℕ → Bool
ends_right n a [] = eqb a n
ends_right n a (e ∷ es) = leb a e && ends_right n e es

-- the most strings of a dictionary: the number after the last is a value too
abbrev pub most_strings : ℕ
most_strings = 0x3FFF_FFFF

pub record RightDictionary (bytes ends : List ℕ) : Type 0 where
  pub cut : ends_right (length bytes) 0 ends ≡ true
  pub few : leb (length ends) most_strings ≡ true
  pub formed : all well_formed (strings_of bytes ends) ≡ true
  pub ascend : neighbours string_before (strings_of bytes ends) ≡ true

-- ---- how many strings come before one, and whether it is among them
unfoldable pub string_rank : List (List ℕ) → List ℕ → ℕ
string_rank [] s = 0
string_rank (x ∷ xs) s = cond (string_before x s) (string_rank xs s + 1) (string_rank xs s)

unfoldable pub is_among : List (List ℕ) → List ℕ → Bool
is_among [] s = false
is_among (x ∷ xs) s = same_string s x || is_among xs s

-- ---- strings by their places
-- there is a string at a place; the one at a place comes before that at another
abbrev pub has_string : List ℕ → ℕ → Bool
has_string ends n = ltb n (length ends)

abbrev pub place_before : List ℕ → List ℕ → ℕ → ℕ → Bool
place_before bytes ends a b = string_before (get_or (strings_of bytes ends) a []) (get_or (strings_of bytes ends) b [])
