-- Dictionaries of names and of texts: which strings each may have, and the test of a whole dictionary. Assumes nothing: these are definitions.
use Rattle.std.specs.Prelude.{ℕ, ◌≡◌, Bool, true, ◌&&◌, not, List, [], ◌∷◌, ltb, leb, length}
use Rattle.sequences.specs.Sequences.{all, neighbours, member}
use Rattle.dictionaries.specs.declared.StringKind.{StringKind}
use Rattle.dictionaries.specs.declared.StringKind.TheVariants.{Names, Texts}
use Rattle.dictionaries.specs.Strings.{string_before}
use Rattle.dictionaries.specs.Utf8.{well_formed, code_points}
use Rattle.dictionaries.specs.Dictionaries.{strings_of, ends_right, most_strings, RightDictionary}

-- ---- names
-- what an IRI in <> may not have (SPARQL 1.1, production [139]): the code points up to U+0020, and these, which are " < > \ ^ ` { | }
abbrev pub iri_excluded : List ℕ
iri_excluded = 0x22 ∷ 0x3C ∷ 0x3E ∷ 0x5C ∷ 0x5E ∷ 0x60 ∷ 0x7B ∷ 0x7C ∷ 0x7D ∷ []

unfoldable pub iri_character : ℕ → Bool
iri_character c = ltb 0x20 c && not (member c iri_excluded)

-- one character or more, each one that an IRI may have
abbrev pub is_iri : List ℕ → Bool
is_iri points = ltb 0 (length points) && all iri_character points

-- ---- a string of a kind, and a dictionary of it
abbrev pub string_right : StringKind → List ℕ → Bool
string_right Names s = well_formed s && is_iri (code_points s)
string_right Texts s = well_formed s

-- the test: few strings, ends that cut the bytes, each string right, and each before the next
unfoldable pub dictionary_right : StringKind → List ℕ → List ℕ → Bool
dictionary_right k bytes ends =
    leb (length ends) most_strings
    && (ends_right (length bytes) 0 ends && (all (string_right k) (strings_of bytes ends) && neighbours string_before (strings_of bytes ends)))

-- what it says: a right dictionary, each of whose strings is one of the kind
pub record RightOf (k : StringKind) (bytes ends : List ℕ) : Type 0 where
  pub right : RightDictionary bytes ends
  pub kind : all (string_right k) (strings_of bytes ends) ≡ true
