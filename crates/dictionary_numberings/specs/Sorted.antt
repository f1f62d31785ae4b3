-- The strings of a list in which none comes before an earlier one, each once. Assumes nothing: these are definitions.
use Rattle.std.specs.Prelude.{ℕ, cond, List, [], ◌∷◌, map, length, get_or}
use Rattle.sequences.specs.Sequences.{numbers}
use Rattle.sequences.specs.Sorting.{sort_by}
use Rattle.dictionaries.specs.Strings.{string_before}
use Rattle.dictionaries.specs.Dictionaries.{strings_of, place_before}

-- a string is left out where the next one is the same
unfoldable pub last_of_each : List (List ℕ) → List (List ℕ)
last_of_each [] = []
last_of_each (x ∷ []) = x ∷ []
last_of_each (x ∷ y ∷ ys) = cond (string_before x y) (x ∷ last_of_each (y ∷ ys)) (last_of_each (y ∷ ys))

-- the places of the strings, sorted by them; the strings at some places
abbrev pub sorted_places : List ℕ → List ℕ → List ℕ
sorted_places bytes ends = sort_by (place_before bytes ends) (numbers (length ends))

abbrev pub strings_at : List ℕ → List ℕ → List ℕ → List (List ℕ)
strings_at bytes ends places = map (λ p. get_or (strings_of bytes ends) p []) places
