-- What words stand for where names and texts stand for others: terms, mappings, graphs, the solutions of a plan, aggregates.
-- Assumes nothing: these are definitions.
use Rattle.std.specs.Prelude.{ℕ, List, map}
use Rattle.words.specs.Bindings.{Bindings}
use Rattle.tables.specs.Tables.{Tables, Section, section}
use Rattle.plans.specs.Branches.{Branch}
use Rattle.plans.specs.Endings.{Ending}
use Rattle.plans.specs.Plans.{Plan}
use Rattle.sparql.specs.Terms.{Vocabulary, by_number, RdfTermOver, TripleOver, GraphOver, MappingOver}
use Rattle.sparql.specs.Algebra.{MultisetOver, basic_graph_pattern, filter, unions}
use Rattle.sparql.specs.Aggregates.{AggregatesOver}
use Rattle.sparql.specs.Years.{years_read}
use Rattle.sparql.specs.Answers.{Readings, AnswerOver}
use Rattle.sparql.specs.Reading.{term_of, mapping_of, triple_in, has_triple, patterns_of, expression_of, aggregates_in}
use Rattle.sparql_strings.specs.Carrying.{Carrier, carry_term, carry_mapping, carry_triple, carry_pattern, carry_expression, carry_aggregates}

module _ {M : Vocabulary} (c : Carrier by_number M) where
  abbrev pub term_decoded : ℕ → RdfTermOver M
  term_decoded w = carry_term c (term_of w)

  abbrev pub mapping_decoded : Bindings → MappingOver M
  mapping_decoded b = carry_mapping c (mapping_of b)

  abbrev pub aggregates_decoded : ℕ → List ℕ → AggregatesOver M
  aggregates_decoded n ws = carry_aggregates c (aggregates_in n ws)

  -- the triple that words of a row stand for, and the graph of what the rows of a year stand for
  abbrev pub triple_decoded : ℕ → ℕ → ℕ → TripleOver M
  triple_decoded s p o = carry_triple c (triple_in s p o)

  abbrev pub graph_decoded : Section → GraphOver M
  graph_decoded t = has_triple triple_decoded t.year t.tables.rows

  -- the solutions of a plan
  abbrev pub branch_decoded : GraphOver M → Branch → MultisetOver M
  branch_decoded g b =
      filter (carry_expression c (expression_of b.condition)) (basic_graph_pattern g (map (carry_pattern c) (patterns_of b.terms)))

  abbrev pub decoded_in : Tables → Plan → ℕ → MultisetOver M
  decoded_in t q year = unions (branch_decoded (graph_decoded (section t year))) q.branches

  abbrev pub decoded_of : Tables → Plan → MultisetOver M
  decoded_of t q = unions (decoded_in t q) (years_read t.rows q.years)

  -- SPARQL's answer to a plan over what tables stand for, by what the words of a list stand for
  abbrev pub read_decoded : Tables → Plan → Readings M
  read_decoded t q =
      record {
        solutions = decoded_of t q;
        solutions_in = decoded_in t q;
        term = term_decoded;
        mapping = mapping_decoded;
        aggregates = aggregates_decoded;
      }

  abbrev pub AnswerDecoded : Tables → Plan → List Bindings → Ending → List ℕ → Type 0
  AnswerDecoded t q delivered e list = AnswerOver (read_decoded t q) delivered e list
