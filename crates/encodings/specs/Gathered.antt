-- The dictionaries of just the strings of some terms: each string once, in order, one behind the other. Assumes nothing: these are definitions.
use Rattle.std.specs.Prelude.{ℕ, ◌≤◌, ◌≡◌, true, List, [], ◌∷◌, length}
use Rattle.sequences.specs.Sequences.{all}
use Rattle.dictionaries.specs.Utf8.{well_formed}
use Rattle.dictionaries.specs.Dictionaries.{most_strings}
use Rattle.dictionary_numberings.specs.Numbering.{bytes_once, ends_once}
use Rattle.sparql.specs.Terms.{iri, integer, text}
use Rattle.sparql_strings.specs.Strings.{Dictionaries}
use Rattle.encodings.specs.Encodings.{StringTerm}

-- the names and the texts of some terms
abbrev pub if_name : StringTerm → List (List ℕ) → List (List ℕ)
if_name (iri s) ss = s ∷ ss
if_name (integer n) ss = ss
if_name (text s) ss = ss

abbrev pub if_text : StringTerm → List (List ℕ) → List (List ℕ)
if_text (iri s) ss = ss
if_text (integer n) ss = ss
if_text (text s) ss = s ∷ ss

unfoldable pub names_in : List StringTerm → List (List ℕ)
names_in [] = []
names_in (x ∷ xs) = if_name x (names_in xs)

unfoldable pub texts_in : List StringTerm → List (List ℕ)
texts_in [] = []
texts_in (x ∷ xs) = if_text x (texts_in xs)

abbrev pub dictionaries_of : List StringTerm → Dictionaries
dictionaries_of xs =
    record {
      name_bytes = bytes_once (names_in xs);
      name_ends = ends_once (names_in xs);
      text_bytes = bytes_once (texts_in xs);
      text_ends = ends_once (texts_in xs);
    }

-- strings that a dictionary may have: well-formed UTF-8, and not too many
pub record StringsRight (ss : List (List ℕ)) : Type 0 where
  pub formed : all well_formed ss ≡ true
  pub few : length ss ≤ most_strings

pub record TermsRight (xs : List StringTerm) : Type 0 where
  pub names : StringsRight (names_in xs)
  pub texts : StringsRight (texts_in xs)
