-- Rows of strings and whole numbers, and their words by the dictionaries of just their strings. Assumes nothing: these are definitions.
use Rattle.std.specs.Prelude.{ℕ, Bool, ◌&&◌, eqb, pos}
use Rattle.std.proofs.Math.Option.{Option}
use mathlib.Core.List.{List, [], ◌∷◌, map, flatten}
use Rattle.dictionaries.specs.Strings.{same_string}
use Rattle.sparql.specs.Terms.{iri, integer, same_term}
use Rattle.sparql_strings.specs.Strings.{Dictionaries}
use Rattle.encodings.specs.Encodings.{StringTerm, words_of}
use Rattle.encodings.specs.Gathered.{dictionaries_of}

-- a row: its subject and its predicate are names
pub record StringRow : Type 0 where
  pub year : ℕ
  pub subject : List ℕ
  pub predicate : List ℕ
  pub object : StringTerm

-- the same row
abbrev pub same_string_row : StringRow → StringRow → Bool
same_string_row r q =
    eqb r.year q.year
    && (same_string r.subject q.subject && (same_string r.predicate q.predicate && same_term r.object q.object))

-- its four terms, and those of some rows, one behind the other
abbrev pub terms_of : StringRow → List StringTerm
terms_of r = integer (pos r.year) ∷ iri r.subject ∷ iri r.predicate ∷ r.object ∷ []

abbrev pub row_terms : List StringRow → List StringTerm
row_terms rows = flatten (map terms_of rows)

-- the dictionaries of just their strings, and their words by these
abbrev pub row_dictionaries : List StringRow → Dictionaries
row_dictionaries rows = dictionaries_of (row_terms rows)

abbrev pub row_words : List StringRow → Option (List ℕ)
row_words rows = words_of (row_dictionaries rows) (row_terms rows)
