-- The grammar of a query, by rows: what a symbol does at a kind of token. Numbers in brackets are SPARQL 1.1's productions (19.8).
-- Each row takes or passes what SPARQL's grammar and the scope of a query's text have there; every fault of reading is one of its cells.
-- Assumes nothing: these are definitions.
use Rattle.std.specs.Prelude.{ℕ, List, [], ◌∷◌, get_or}
use Rattle.syntax.specs.Cells.{Cell, refuse, pass, write_and, drop_and, at, Row, refusing, passing, row_cell}
use Rattle.syntax.specs.Kinds.{end_token, name_token, odd_token, typed_odd_token, prefix_name_token, prefix_iri_token, year_token, count_token}
use Rattle.syntax.specs.Kinds.{year_variable_token, undeclared_token, relative_token, typed_other_token, other_value_token, typing_token, prefix_word}
use Rattle.syntax.specs.Kinds.{select_word, distinct_word, from_word, where_word, graph_word, filter_word, union_word, grouping_word, by_word}
use Rattle.syntax.specs.Kinds.{order_word, limit_word, offset_word, as_word, count_word, in_word, not_word, brace_sign, unbrace_sign, opens_sign}
use Rattle.syntax.specs.Kinds.{closes_sign, dot_sign, semicolon_sign, comma_sign, star_sign, and_sign, or_sign, not_sign, query_symbol}
use Rattle.syntax.specs.Kinds.{prefix_name_symbol, prefix_iri_symbol, head_symbol, columns_symbol, more_columns_symbol, aggregate_symbol, counted_symbol}
use Rattle.syntax.specs.Kinds.{variable_symbol, dataset_symbol, begin_symbol, year_symbol, from_where_symbol, from_begin_symbol, whole_symbol}
use Rattle.syntax.specs.Kinds.{parts_symbol, after_triples_symbol, dot_symbol, more_union_symbol, verb_symbol, more_verbs_symbol, verb_or_end_symbol}
use Rattle.syntax.specs.Kinds.{more_objects_symbol, object_symbol, typing_symbol, datatype_symbol, other_type_symbol, bracket_symbol, member_symbol}
use Rattle.syntax.specs.Kinds.{more_and_symbol, more_or_symbol, comparison_symbol, members_symbol, more_members_symbol, operand_symbol, group_by_symbol}
use Rattle.syntax.specs.Kinds.{group_name_symbol, more_names_symbol, order_by_symbol, key_symbol, more_keys_symbol, limits_symbol, offset_symbol}
use Rattle.syntax.specs.Kinds.{limit_symbol, number_symbol, unbrace_symbol, outer_brace_symbol, brace_symbol, opens_symbol, closes_symbol, as_symbol}
use Rattle.syntax.specs.Kinds.{by_symbol, in_symbol, end_symbol, column_node, aggregate_node, count_distinct_node, from_node, open_node, graph_node}
use Rattle.syntax.specs.Kinds.{triple_node, same_subject_node, same_verb_node, filter_node, union_node, join_node, compare_node, one_of_node, one_more_node}
use Rattle.syntax.specs.Kinds.{never_node, not_node, and_node, or_node, by_node, key_node, key_by_node, limit_node, offset_node, variable_kinds}
use Rattle.syntax.specs.Kinds.{plain_operands, typed_operands, plain_objects, typed_objects, verbs, comparison_signs, measures, countables}
use Rattle.syntax.specs.Kinds.{directions}

-- [1-7] prefixes, then SELECT
abbrev query_row : Row
query_row =
    refusing
    (at (prefix_word ∷ []) (drop_and (prefix_name_symbol ∷ prefix_iri_symbol ∷ query_symbol ∷ []))
    ∷ at (select_word ∷ [])
    (drop_and (head_symbol ∷ dataset_symbol ∷ group_by_symbol
    ∷ order_by_symbol ∷ limits_symbol ∷ end_symbol ∷ [])) ∷ [])

-- [6]
abbrev prefix_name_row : Row
prefix_name_row =
    refusing
    (at (prefix_name_token ∷ []) (drop_and []) ∷ [])

abbrev prefix_iri_row : Row
prefix_iri_row =
    refusing
    (at (prefix_iri_token ∷ []) (drop_and [])
    ∷ at (relative_token ∷ []) (refuse 5) ∷ [])

-- [9] DISTINCT or not, * or columns
abbrev head_row : Row
head_row =
    refusing
    (at (distinct_word ∷ []) (write_and (columns_symbol ∷ []))
    ∷ at (star_sign ∷ []) (write_and (column_node ∷ []))
    ∷ at variable_kinds (write_and (column_node ∷ more_columns_symbol ∷ []))
    ∷ at (opens_sign ∷ []) (write_and (aggregate_symbol ∷ more_columns_symbol ∷ [])) ∷ [])

abbrev columns_row : Row
columns_row =
    refusing
    (at (star_sign ∷ []) (write_and (column_node ∷ []))
    ∷ at variable_kinds (write_and (column_node ∷ more_columns_symbol ∷ []))
    ∷ at (opens_sign ∷ []) (write_and (aggregate_symbol ∷ more_columns_symbol ∷ [])) ∷ [])

abbrev more_columns_row : Row
more_columns_row =
    passing
    (at variable_kinds (write_and (column_node ∷ more_columns_symbol ∷ []))
    ∷ at (opens_sign ∷ []) (write_and (aggregate_symbol ∷ more_columns_symbol ∷ [])) ∷ [])

-- [127] COUNT and the others, up to the bracket behind AS's name
abbrev aggregate_row : Row
aggregate_row =
    refusing
    (at (count_word ∷ []) (write_and (opens_symbol ∷ counted_symbol ∷ []))
    ∷ at measures
    (write_and (opens_symbol ∷ variable_symbol ∷ closes_symbol ∷ as_symbol
    ∷ variable_symbol ∷ aggregate_node ∷ closes_symbol ∷ [])) ∷ [])

abbrev counted_row : Row
counted_row =
    refusing
    (at countables (write_and (closes_symbol ∷ as_symbol ∷ variable_symbol ∷ aggregate_node ∷ closes_symbol ∷ []))
    ∷ at (distinct_word ∷ [])
    (drop_and (variable_symbol ∷ closes_symbol ∷ as_symbol ∷ variable_symbol
    ∷ count_distinct_node ∷ closes_symbol ∷ [])) ∷ [])

-- [108]
abbrev variable_row : Row
variable_row =
    refusing
    (at variable_kinds (write_and []) ∷ [])

-- [13-17] FROM at most once, the word WHERE or not, and the pattern's brace
abbrev dataset_row : Row
dataset_row =
    refusing
    (at (from_word ∷ []) (drop_and (year_symbol ∷ from_node ∷ from_where_symbol ∷ []))
    ∷ at (where_word ∷ []) (drop_and (begin_symbol ∷ []))
    ∷ at (brace_sign ∷ []) (drop_and (open_node ∷ whole_symbol ∷ [])) ∷ [])

abbrev begin_row : Row
begin_row =
    refusing
    (at (brace_sign ∷ []) (drop_and (open_node ∷ whole_symbol ∷ [])) ∷ [])

abbrev year_row : Row
year_row =
    refusing
    (at (year_token ∷ []) (write_and [])
    ∷ at (name_token ∷ []) (refuse 13)
    ∷ at (undeclared_token ∷ []) (refuse 4)
    ∷ at (relative_token ∷ []) (refuse 5) ∷ [])

-- behind FROM, without GRAPH
abbrev from_where_row : Row
from_where_row =
    refusing
    (at (where_word ∷ []) (drop_and (from_begin_symbol ∷ []))
    ∷ at (brace_sign ∷ []) (drop_and (open_node ∷ parts_symbol ∷ unbrace_symbol ∷ [])) ∷ [])

abbrev from_begin_row : Row
from_begin_row =
    refusing
    (at (brace_sign ∷ []) (drop_and (open_node ∷ parts_symbol ∷ unbrace_symbol ∷ [])) ∷ [])

-- [53-55] the pattern up to its brace, GRAPH's group alone or its parts
abbrev whole_row : Row
whole_row =
    refusing
    (at (graph_word ∷ [])
    (drop_and (variable_symbol ∷ graph_node ∷ brace_symbol ∷ parts_symbol
    ∷ unbrace_symbol ∷ dot_symbol ∷ outer_brace_symbol ∷ []))
    ∷ at (unbrace_sign ∷ []) (write_and [])
    ∷ at plain_objects (write_and (verb_symbol ∷ after_triples_symbol ∷ parts_symbol ∷ unbrace_symbol ∷ []))
    ∷ at typed_objects
    (write_and (typing_symbol ∷ datatype_symbol ∷ verb_symbol ∷ after_triples_symbol
    ∷ parts_symbol ∷ unbrace_symbol ∷ []))
    ∷ at (filter_word ∷ []) (write_and (bracket_symbol ∷ filter_node ∷ dot_symbol ∷ parts_symbol ∷ unbrace_symbol ∷ []))
    ∷ at (brace_sign ∷ [])
    (drop_and (open_node ∷ parts_symbol ∷ unbrace_symbol ∷ more_union_symbol
    ∷ join_node ∷ dot_symbol ∷ parts_symbol ∷ unbrace_symbol ∷ []))
    ∷ at (odd_token ∷ other_value_token ∷ []) (refuse 6)
    ∷ at (typed_odd_token ∷ typed_other_token ∷ []) (drop_and (typing_symbol ∷ other_type_symbol ∷ []))
    ∷ at (undeclared_token ∷ []) (refuse 4)
    ∷ at (relative_token ∷ year_variable_token ∷ []) (refuse 5) ∷ [])

-- [54,55] triples, filters and groups, up to a closing brace
abbrev parts_row : Row
parts_row =
    refusing
    (at (unbrace_sign ∷ []) pass
    ∷ at plain_objects (write_and (verb_symbol ∷ after_triples_symbol ∷ parts_symbol ∷ []))
    ∷ at typed_objects (write_and (typing_symbol ∷ datatype_symbol ∷ verb_symbol ∷ after_triples_symbol ∷ parts_symbol ∷ []))
    ∷ at (filter_word ∷ []) (write_and (bracket_symbol ∷ filter_node ∷ dot_symbol ∷ parts_symbol ∷ []))
    ∷ at (brace_sign ∷ [])
    (drop_and (open_node ∷ parts_symbol ∷ unbrace_symbol ∷ more_union_symbol
    ∷ join_node ∷ dot_symbol ∷ parts_symbol ∷ []))
    ∷ at (odd_token ∷ other_value_token ∷ []) (refuse 6)
    ∷ at (typed_odd_token ∷ typed_other_token ∷ []) (drop_and (typing_symbol ∷ other_type_symbol ∷ []))
    ∷ at (undeclared_token ∷ []) (refuse 4)
    ∷ at (relative_token ∷ year_variable_token ∷ []) (refuse 5) ∷ [])

-- [55] a point between triples
abbrev after_triples_row : Row
after_triples_row =
    refusing
    (at (dot_sign ∷ []) (drop_and [])
    ∷ at (filter_word ∷ brace_sign ∷ unbrace_sign ∷ []) pass ∷ [])

-- [54] a point behind a filter or a group
abbrev dot_row : Row
dot_row =
    passing
    (at (dot_sign ∷ []) (drop_and []) ∷ [])

-- [67]
abbrev more_union_row : Row
more_union_row =
    passing
    (at (union_word ∷ [])
    (drop_and (brace_symbol ∷ open_node ∷ parts_symbol ∷ unbrace_symbol ∷ union_node ∷ more_union_symbol ∷ [])) ∷ [])

-- [75,77,78] a verb and its objects, then ';' and further ones
abbrev verb_row : Row
verb_row =
    refusing
    (at verbs (write_and (object_symbol ∷ triple_node ∷ more_objects_symbol ∷ more_verbs_symbol ∷ []))
    ∷ at (undeclared_token ∷ []) (refuse 4)
    ∷ at (relative_token ∷ year_variable_token ∷ []) (refuse 5) ∷ [])

abbrev more_verbs_row : Row
more_verbs_row =
    passing
    (at (semicolon_sign ∷ []) (drop_and (verb_or_end_symbol ∷ [])) ∷ [])

abbrev verb_or_end_row : Row
verb_or_end_row =
    passing
    (at verbs (write_and (object_symbol ∷ same_subject_node ∷ more_objects_symbol ∷ more_verbs_symbol ∷ []))
    ∷ at (semicolon_sign ∷ []) (drop_and (verb_or_end_symbol ∷ []))
    ∷ at (undeclared_token ∷ []) (refuse 4)
    ∷ at (relative_token ∷ year_variable_token ∷ []) (refuse 5) ∷ [])

-- [79]
abbrev more_objects_row : Row
more_objects_row =
    passing
    (at (comma_sign ∷ []) (drop_and (object_symbol ∷ same_verb_node ∷ more_objects_symbol ∷ [])) ∷ [])

-- [80]
abbrev object_row : Row
object_row =
    refusing
    (at plain_objects (write_and [])
    ∷ at typed_objects (write_and (typing_symbol ∷ datatype_symbol ∷ []))
    ∷ at (odd_token ∷ other_value_token ∷ []) (refuse 6)
    ∷ at (typed_odd_token ∷ typed_other_token ∷ []) (drop_and (typing_symbol ∷ other_type_symbol ∷ []))
    ∷ at (undeclared_token ∷ []) (refuse 4)
    ∷ at (relative_token ∷ year_variable_token ∷ []) (refuse 5) ∷ [])

-- [129] ^^ and the datatype, which are not written; another datatype
abbrev typing_row : Row
typing_row =
    refusing
    (at (typing_token ∷ []) (drop_and []) ∷ [])

abbrev datatype_row : Row
datatype_row =
    refusing
    (at (name_token ∷ []) (drop_and []) ∷ [])

abbrev other_type_row : Row
other_type_row =
    refusing
    (at (name_token ∷ []) (refuse 6)
    ∷ at (undeclared_token ∷ []) (refuse 4)
    ∷ at (relative_token ∷ []) (refuse 5) ∷ [])

-- [68,69,71] a condition in brackets
abbrev bracket_row : Row
bracket_row =
    refusing
    (at (opens_sign ∷ []) (drop_and (member_symbol ∷ more_and_symbol ∷ more_or_symbol ∷ closes_symbol ∷ [])) ∷ [])

-- [113-119] a comparison, a condition in brackets, or not
abbrev member_row : Row
member_row =
    refusing
    (at plain_operands (write_and (comparison_symbol ∷ []))
    ∷ at typed_operands (write_and (typing_symbol ∷ datatype_symbol ∷ comparison_symbol ∷ []))
    ∷ at (opens_sign ∷ []) (drop_and (member_symbol ∷ more_and_symbol ∷ more_or_symbol ∷ closes_symbol ∷ []))
    ∷ at (not_sign ∷ []) (drop_and (bracket_symbol ∷ not_node ∷ []))
    ∷ at (other_value_token ∷ []) (refuse 6)
    ∷ at (typed_other_token ∷ []) (drop_and (typing_symbol ∷ other_type_symbol ∷ []))
    ∷ at (undeclared_token ∷ []) (refuse 4)
    ∷ at (relative_token ∷ year_variable_token ∷ []) (refuse 5) ∷ [])

-- [112]
abbrev more_and_row : Row
more_and_row =
    passing
    (at (and_sign ∷ []) (drop_and (member_symbol ∷ and_node ∷ more_and_symbol ∷ [])) ∷ [])

-- [111]
abbrev more_or_row : Row
more_or_row =
    passing
    (at (or_sign ∷ []) (drop_and (member_symbol ∷ more_and_symbol ∷ or_node ∷ more_or_symbol ∷ [])) ∷ [])

-- [114]
abbrev comparison_row : Row
comparison_row =
    refusing
    (at comparison_signs (write_and (operand_symbol ∷ compare_node ∷ []))
    ∷ at (in_word ∷ []) (drop_and (opens_symbol ∷ members_symbol ∷ []))
    ∷ at (not_word ∷ []) (drop_and (in_symbol ∷ opens_symbol ∷ members_symbol ∷ not_node ∷ [])) ∷ [])

-- [71] the list of IN
abbrev members_row : Row
members_row =
    refusing
    (at (closes_sign ∷ []) (drop_and (never_node ∷ []))
    ∷ at plain_operands (write_and (one_of_node ∷ more_members_symbol ∷ []))
    ∷ at typed_operands (write_and (typing_symbol ∷ datatype_symbol ∷ one_of_node ∷ more_members_symbol ∷ []))
    ∷ at (other_value_token ∷ []) (refuse 6)
    ∷ at (typed_other_token ∷ []) (drop_and (typing_symbol ∷ other_type_symbol ∷ []))
    ∷ at (undeclared_token ∷ []) (refuse 4)
    ∷ at (relative_token ∷ year_variable_token ∷ []) (refuse 5) ∷ [])

abbrev more_members_row : Row
more_members_row =
    refusing
    (at (closes_sign ∷ []) (drop_and [])
    ∷ at (comma_sign ∷ []) (drop_and (operand_symbol ∷ one_more_node ∷ more_members_symbol ∷ [])) ∷ [])

abbrev operand_row : Row
operand_row =
    refusing
    (at plain_operands (write_and [])
    ∷ at typed_operands (write_and (typing_symbol ∷ datatype_symbol ∷ []))
    ∷ at (other_value_token ∷ []) (refuse 6)
    ∷ at (typed_other_token ∷ []) (drop_and (typing_symbol ∷ other_type_symbol ∷ []))
    ∷ at (undeclared_token ∷ []) (refuse 4)
    ∷ at (relative_token ∷ year_variable_token ∷ []) (refuse 5) ∷ [])

-- [19]
abbrev group_by_row : Row
group_by_row =
    passing
    (at (grouping_word ∷ []) (write_and (by_symbol ∷ group_name_symbol ∷ more_names_symbol ∷ [])) ∷ [])

abbrev group_name_row : Row
group_name_row =
    refusing
    (at variable_kinds (write_and (by_node ∷ [])) ∷ [])

abbrev more_names_row : Row
more_names_row =
    passing
    (at variable_kinds (write_and (by_node ∷ more_names_symbol ∷ [])) ∷ [])

-- [23]
abbrev order_by_row : Row
order_by_row =
    passing
    (at (order_word ∷ []) (drop_and (by_symbol ∷ key_symbol ∷ more_keys_symbol ∷ [])) ∷ [])

-- [24]
abbrev key_row : Row
key_row =
    refusing
    (at variable_kinds (write_and (key_node ∷ []))
    ∷ at directions (write_and (opens_symbol ∷ variable_symbol ∷ closes_symbol ∷ key_by_node ∷ [])) ∷ [])

abbrev more_keys_row : Row
more_keys_row =
    passing
    (at variable_kinds (write_and (key_node ∷ more_keys_symbol ∷ []))
    ∷ at directions (write_and (opens_symbol ∷ variable_symbol ∷ closes_symbol ∷ key_by_node ∷ more_keys_symbol ∷ [])) ∷ [])

-- [25-27] LIMIT and OFFSET in either order
abbrev limits_row : Row
limits_row =
    passing
    (at (limit_word ∷ []) (drop_and (number_symbol ∷ limit_node ∷ offset_symbol ∷ []))
    ∷ at (offset_word ∷ []) (drop_and (number_symbol ∷ offset_node ∷ limit_symbol ∷ [])) ∷ [])

abbrev offset_row : Row
offset_row =
    passing
    (at (offset_word ∷ []) (drop_and (number_symbol ∷ offset_node ∷ [])) ∷ [])

abbrev limit_row : Row
limit_row =
    passing
    (at (limit_word ∷ []) (drop_and (number_symbol ∷ limit_node ∷ [])) ∷ [])

abbrev number_row : Row
number_row =
    refusing
    (at (count_token ∷ []) (write_and []) ∷ [])

-- tokens that stand for themselves; the closing brace of a group is written
abbrev unbrace_row : Row
unbrace_row =
    refusing
    (at (unbrace_sign ∷ []) (write_and []) ∷ [])

abbrev outer_brace_row : Row
outer_brace_row =
    refusing
    (at (unbrace_sign ∷ []) (drop_and []) ∷ [])

abbrev brace_row : Row
brace_row =
    refusing
    (at (brace_sign ∷ []) (drop_and []) ∷ [])

abbrev opens_row : Row
opens_row =
    refusing
    (at (opens_sign ∷ []) (drop_and []) ∷ [])

abbrev closes_row : Row
closes_row =
    refusing
    (at (closes_sign ∷ []) (drop_and []) ∷ [])

abbrev as_row : Row
as_row =
    refusing
    (at (as_word ∷ []) (drop_and []) ∷ [])

abbrev by_row : Row
by_row =
    refusing
    (at (by_word ∷ []) (drop_and []) ∷ [])

abbrev in_row : Row
in_row =
    refusing
    (at (in_word ∷ []) (drop_and []) ∷ [])

abbrev end_row : Row
end_row =
    refusing
    (at (end_token ∷ []) (drop_and []) ∷ [])

-- a row for each symbol, by its number
abbrev pub grammar : List Row
grammar =
    query_row ∷ prefix_name_row ∷ prefix_iri_row ∷ head_row ∷ columns_row ∷ more_columns_row ∷ aggregate_row ∷ counted_row ∷
    variable_row ∷ dataset_row ∷ begin_row ∷ year_row ∷ from_where_row ∷ from_begin_row ∷ whole_row ∷ parts_row ∷
    after_triples_row ∷ dot_row ∷ more_union_row ∷ verb_row ∷ more_verbs_row ∷ verb_or_end_row ∷ more_objects_row ∷ object_row ∷
    typing_row ∷ datatype_row ∷ other_type_row ∷ bracket_row ∷ member_row ∷ more_and_row ∷ more_or_row ∷ comparison_row ∷
    members_row ∷ more_members_row ∷ operand_row ∷ group_by_row ∷ group_name_row ∷ more_names_row ∷ order_by_row ∷ key_row ∷
    more_keys_row ∷ limits_row ∷ offset_row ∷ limit_row ∷ number_row ∷ unbrace_row ∷ outer_brace_row ∷ brace_row ∷ opens_row ∷
    closes_row ∷ as_row ∷ by_row ∷ in_row ∷ end_row ∷ []

unfoldable pub cell_of : ℕ → ℕ → Cell
cell_of s k = row_cell (get_or grammar s (refusing [])) k
