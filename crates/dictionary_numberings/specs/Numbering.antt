-- Strings that come in any order and as often as they come: the dictionary of them, and each one's number. Assumes nothing: these are definitions.
use Rattle.std.specs.Prelude.{ℕ, ◌+◌, ◌<◌, ◌≡◌, Bool, true, cond, ◌&&◌, ◌↔◌, leb, length, get_or}
use mathlib.Core.List.{List, [], ◌∷◌, map, flatten}
use Rattle.sequences.specs.Sequences.{all}
use Rattle.dictionaries.specs.declared.StringKind.{StringKind}
use Rattle.dictionaries.specs.Strings.{string_before}
use Rattle.dictionaries.specs.Dictionaries.{strings_of, most_strings, string_rank, is_among}
use Rattle.dictionaries.specs.Checking.{string_right, RightOf}

-- ---- each string once, ascending
unfoldable pub insert_once : List ℕ → List (List ℕ) → List (List ℕ)
insert_once s [] = s ∷ []
insert_once s (x ∷ xs) = cond (string_before s x) (s ∷ x ∷ xs) (cond (string_before x s) (x ∷ insert_once s xs) (x ∷ xs))

unfoldable pub strings_once : List (List ℕ) → List (List ℕ)
strings_once [] = []
strings_once (s ∷ ss) = insert_once s (strings_once ss)

-- ---- the dictionary of some strings: their bytes, one string behind the other, and where each ends, from a place on
abbrev pub bytes_once : List (List ℕ) → List ℕ
bytes_once ss = flatten (strings_once ss)

unfoldable pub ends_after : ℕ → List (List ℕ) → List ℕ
ends_after a [] = []
ends_after a (s ∷ ss) = (a + length s) ∷ ends_after (a + length s) ss

abbrev pub ends_once : List (List ℕ) → List ℕ
ends_once ss = ends_after 0 (strings_once ss)

-- the number of each: how many of the dictionary come before it
abbrev pub string_numbers : List (List ℕ) → List ℕ
string_numbers ss = map (string_rank (strings_once ss)) ss

-- strings of a kind, not too many
abbrev pub strings_right : StringKind → List (List ℕ) → Bool
strings_right k ss = leb (length ss) most_strings && all (string_right k) ss

-- ---- what is true of it
pub record Numbered (k : StringKind) (ss : List (List ℕ)) (bytes ends numbers : List ℕ) : Type 0 where
  -- a right dictionary, which has each string once, of exactly the strings given
  pub right : RightOf k bytes ends
  pub exactly : (s : List ℕ) → is_among (strings_of bytes ends) s ≡ is_among ss s
  -- a number for each string, and the string stands there
  pub each : length numbers ≡ length ss
  pub within : (i : ℕ) → i < length ss → get_or numbers i 0 < length ends
  pub stands : (i : ℕ) → i < length ss → get_or (strings_of bytes ends) (get_or numbers i 0) [] ≡ get_or ss i []
  -- numbers are the same exactly where the strings are, and less exactly where one comes before the other
  pub same : (i j : ℕ) → i < length ss → j < length ss → (get_or numbers i 0 ≡ get_or numbers j 0) ↔ (get_or ss i [] ≡ get_or ss j [])
  pub less : (i j : ℕ) → i < length ss → j < length ss → (get_or numbers i 0 < get_or numbers j 0) ↔ (string_before (get_or ss i []) (get_or ss j []) ≡ true)
