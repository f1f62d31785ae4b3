-- Names and texts as strings of code points, and what numbers stand for by two dictionaries. Assumes nothing: these are definitions.
use Rattle.std.specs.Prelude.{ℕ, ◌+◌, List, [], ◌∷◌, map, get_or}
use Rattle.dictionaries.specs.Strings.{string_before, same_string}
use Rattle.dictionaries.specs.Utf8.{code_points}
use Rattle.dictionaries.specs.Dictionaries.{strings_of, RightDictionary}
use Rattle.sparql.specs.Terms.{Vocabulary, by_number}
use Rattle.sparql_strings.specs.Carrying.{Carrier}

-- strings of code points: the first that tells two apart decides
abbrev pub by_string : Vocabulary
by_string = record { Name = List ℕ; same = same_string; before = string_before }

-- a number that no string of a dictionary has stands for what is no string, after all that are: a number that is no code point
abbrev pub no_string : ℕ → List ℕ
no_string n = (0x110000 + n) ∷ []

-- the string of a number: the code points of the bytes at its place
abbrev pub decoded : List ℕ → List ℕ → ℕ → List ℕ
decoded bytes ends n = get_or (map code_points (strings_of bytes ends)) n (no_string n)

-- a dictionary of names and one of texts
pub record Dictionaries : Type 0 where
  pub name_bytes : List ℕ
  pub name_ends : List ℕ
  pub text_bytes : List ℕ
  pub text_ends : List ℕ

pub record RightDictionaries (d : Dictionaries) : Type 0 where
  pub names : RightDictionary d.name_bytes d.name_ends
  pub texts : RightDictionary d.text_bytes d.text_ends

abbrev pub decoding : Dictionaries → Carrier by_number by_string
decoding d = record { name = decoded d.name_bytes d.name_ends; text = decoded d.text_bytes d.text_ends }
