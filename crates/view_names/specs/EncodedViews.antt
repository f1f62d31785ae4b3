-- The words that the call view is lent for rows of strings, by some dictionaries. Assumes nothing: these are definitions.
use Rattle.std.specs.Prelude.{ℕ, ◌≡◌, List, map}
use Rattle.std.proofs.Math.Option.{some}
use Rattle.sparql.specs.Terms.{iri}
use Rattle.sparql_strings.specs.Strings.{Dictionaries}
use Rattle.encodings.specs.Encodings.{word_of, words_of}
use Rattle.encodings.specs.StringRows.{StringRow, row_terms}

-- rows, the names of a grant and that of the membership predicate have these words
pub record HaveWords (d : Dictionaries) (grant : List (List ℕ)) (membership : List ℕ) (rows : List StringRow)
    (ws granted : List ℕ) (member : ℕ) : Type 0 where
  pub of_rows_fact : words_of d (row_terms rows) ≡ some ws
  pub of_grant : words_of d (map iri grant) ≡ some granted
  pub of_membership : word_of d (iri membership) ≡ some member
