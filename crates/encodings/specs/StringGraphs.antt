-- The graph of rows of strings in a year, names and texts in code points. Assumes nothing: these are definitions.
use Rattle.std.specs.Prelude.{ℕ, false, ◌&&◌, ◌||◌, List, [], ◌∷◌, eqb}
use Rattle.sparql.specs.Terms.{iri, TripleOver, same_triple, GraphOver}
use Rattle.sparql_strings.specs.Strings.{by_string}
use Rattle.encodings.specs.Encodings.{in_code_points}
use Rattle.encodings.specs.StringRows.{StringRow}

abbrev pub triple_given : StringRow → TripleOver by_string
triple_given r =
    record { subject = in_code_points (iri r.subject); predicate = in_code_points (iri r.predicate); object = in_code_points r.object }

unfoldable pub graph_given : ℕ → List StringRow → GraphOver by_string
graph_given year [] x = false
graph_given year (r ∷ rows) x = (eqb r.year year && same_triple x (triple_given r)) || graph_given year rows x
