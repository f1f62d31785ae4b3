-- Worked cases, by computation: literal lists of tokens, and the words or the fault that they are read as, for each production and each fault
-- of reading; words, and the tree that they are built to.
use Prim.Native.Nat.{ℕ, suc, ◌+◌, ◌*◌}
use mathlib.Core.Path.{◌≡◌, refl}
use mathlib.Core.Option.{Option, none, some}
use mathlib.Core.List.{List, [], ◌∷◌}
use lib.Dec.{T}
use Rattle.tokens.specs.Classes.{is_one_of}
use Rattle.syntax.specs.Kinds.{end_token, variable_token, name_token, whole_token, typed_whole_token, odd_token, typed_text_token, prefix_name_token}
use Rattle.syntax.specs.Kinds.{prefix_iri_token, year_token, count_token, year_variable_token, undeclared_token, relative_token, typed_other_token}
use Rattle.syntax.specs.Kinds.{other_value_token, unread_token, bad_token, wrong_token, typing_token, a_token, prefix_word, select_word, distinct_word}
use Rattle.syntax.specs.Kinds.{from_word, where_word, graph_word, filter_word, union_word, grouping_word, by_word, order_word, desc_word, limit_word}
use Rattle.syntax.specs.Kinds.{offset_word, as_word, count_word, sum_word, in_word, not_word, brace_sign, unbrace_sign, opens_sign, closes_sign, dot_sign}
use Rattle.syntax.specs.Kinds.{semicolon_sign, comma_sign, star_sign, equal_sign, less_sign, and_sign, or_sign, not_sign, column_node, aggregate_node}
use Rattle.syntax.specs.Kinds.{count_distinct_node, from_node, open_node, graph_node, triple_node, same_subject_node, same_verb_node, filter_node}
use Rattle.syntax.specs.Kinds.{union_node, join_node, compare_node, one_of_node, one_more_node, never_node, not_node, and_node, or_node, by_node, key_node}
use Rattle.syntax.specs.Kinds.{key_by_node, limit_node, offset_node, operands, objects, verbs, comparison_signs, query_symbol}
use Rattle.syntax.specs.Machine.{parsed, read, fault, word_kind}
use Rattle.syntax.specs.Trees.{Leaf, Constraint, compared, among, negated, either, GroupPattern, empty, with_triple, with_union, alone, united}
use Rattle.syntax.specs.Building.{Pending, nothing_yet, built}
use Rattle.syntax.specs.Computing.{computing}

-- a token of a kind, in its place
abbrev word : ℕ → ℕ → ℕ
word k i = k + 128 * i

abbrev in_order : ℕ → List ℕ → List ℕ
in_order i [] = []
in_order i (k ∷ ks) = word k i ∷ in_order (suc i) ks

-- [1,2,9,17,53-55] SELECT ?x WHERE { ?x :p ?y }
select_one : parsed
    (in_order 0
    (select_word ∷ variable_token ∷ where_word ∷ brace_sign ∷ variable_token ∷ name_token ∷ variable_token ∷ unbrace_sign
    ∷ end_token ∷ []))
    (query_symbol ∷ []) []
    ≡ read
    (word variable_token 1 ∷ column_node ∷ open_node ∷ word variable_token 4 ∷ word name_token 5 ∷ word variable_token
    6 ∷ triple_node ∷ word unbrace_sign 7 ∷ [])
unfolding computing
select_one = refl

-- [6] PREFIX p: <..> PREFIX q: <..> SELECT * { }: nothing of it is written
prefixes_read : parsed
    (in_order 0
    (prefix_word ∷ prefix_name_token ∷ prefix_iri_token ∷ prefix_word ∷ prefix_name_token ∷ prefix_iri_token ∷ select_word ∷
    star_sign ∷ brace_sign ∷ unbrace_sign ∷ end_token ∷ []))
    (query_symbol ∷ []) []
    ≡ read
    (word star_sign 7 ∷ column_node ∷ open_node ∷ word unbrace_sign 9 ∷ [])
unfolding computing
prefixes_read = refl

-- [9,13-15] SELECT DISTINCT ?x ?y FROM <year:2025> { ?x :p ?y . }
distinct_year : parsed
    (in_order 0
    (select_word ∷ distinct_word ∷ variable_token ∷ variable_token ∷ from_word ∷ year_token ∷ brace_sign ∷ variable_token
    ∷ name_token ∷ variable_token ∷ dot_sign ∷ unbrace_sign ∷ end_token ∷ []))
    (query_symbol ∷ []) []
    ≡ read
    (word distinct_word 1 ∷ word variable_token 2 ∷ column_node ∷ word variable_token 3 ∷ column_node ∷ word year_token
    5 ∷ from_node ∷ open_node ∷ word variable_token 7 ∷ word name_token 8 ∷ word variable_token 9 ∷ triple_node ∷ word
    unbrace_sign 11 ∷ [])
unfolding computing
distinct_year = refl

-- [127] (COUNT(*) AS ?n) ?x (SUM(?y) AS ?s)
aggregates_read : parsed
    (in_order 0
    (select_word ∷ opens_sign ∷ count_word ∷ opens_sign ∷ star_sign ∷ closes_sign ∷ as_word ∷ variable_token ∷ closes_sign
    ∷ variable_token ∷ opens_sign ∷ sum_word ∷ opens_sign ∷ variable_token ∷ closes_sign ∷ as_word ∷ variable_token ∷
    closes_sign ∷ brace_sign ∷ unbrace_sign ∷ end_token ∷ []))
    (query_symbol ∷ []) []
    ≡ read
    (word opens_sign 1 ∷ word count_word 2 ∷ word star_sign 4 ∷ word variable_token 7 ∷ aggregate_node ∷ word
    variable_token 9 ∷ column_node ∷ word opens_sign 10 ∷ word sum_word 11 ∷ word variable_token 13 ∷ word
    variable_token 16 ∷ aggregate_node ∷ open_node ∷ word unbrace_sign 19 ∷ [])
unfolding computing
aggregates_read = refl

-- [127] (COUNT(DISTINCT ?x) AS ?n)
count_distinct : parsed
    (in_order 0
    (select_word ∷ opens_sign ∷ count_word ∷ opens_sign ∷ distinct_word ∷ variable_token ∷ closes_sign ∷ as_word ∷
    variable_token ∷ closes_sign ∷ brace_sign ∷ unbrace_sign ∷ end_token ∷ []))
    (query_symbol ∷ []) []
    ≡ read
    (word opens_sign 1 ∷ word count_word 2 ∷ word variable_token 5 ∷ word variable_token 8 ∷ count_distinct_node ∷
    open_node ∷ word unbrace_sign 11 ∷ [])
unfolding computing
count_distinct = refl

-- [75-79] ?x :p 1 , ?y ; a :t ;; .
lists_read : parsed
    (in_order 0
    (select_word ∷ star_sign ∷ brace_sign ∷ variable_token ∷ name_token ∷ whole_token ∷ comma_sign ∷ variable_token ∷
    semicolon_sign ∷ a_token ∷ name_token ∷ semicolon_sign ∷ semicolon_sign ∷ dot_sign ∷ unbrace_sign ∷ end_token ∷ []))
    (query_symbol ∷ []) []
    ≡ read
    (word star_sign 1 ∷ column_node ∷ open_node ∷ word variable_token 3 ∷ word name_token 4 ∷ word whole_token 5 ∷
    triple_node ∷ word variable_token 7 ∷ same_verb_node ∷ word a_token 9 ∷ word name_token 10 ∷ same_subject_node ∷
    word unbrace_sign 14 ∷ [])
unfolding computing
lists_read = refl

-- [129] "1"^^xsd:integer :p "x"^^xsd:string: ^^ and the datatype are not written
types_read : parsed
    (in_order 0
    (select_word ∷ star_sign ∷ brace_sign ∷ typed_whole_token ∷ typing_token ∷ name_token ∷ name_token ∷ typed_text_token ∷
    typing_token ∷ name_token ∷ unbrace_sign ∷ end_token ∷ []))
    (query_symbol ∷ []) []
    ≡ read
    (word star_sign 1 ∷ column_node ∷ open_node ∷ word typed_whole_token 3 ∷ word name_token 6 ∷ word typed_text_token 7
    ∷ triple_node ∷ word unbrace_sign 10 ∷ [])
unfolding computing
types_read = refl

-- [67] { } UNION { ?x :p ?y } . { }
unions_read : parsed
    (in_order 0
    (select_word ∷ star_sign ∷ brace_sign ∷ brace_sign ∷ unbrace_sign ∷ union_word ∷ brace_sign ∷ variable_token ∷
    name_token ∷ variable_token ∷ unbrace_sign ∷ dot_sign ∷ brace_sign ∷ unbrace_sign ∷ unbrace_sign ∷ end_token ∷ []))
    (query_symbol ∷ []) []
    ≡ read
    (word star_sign 1 ∷ column_node ∷ open_node ∷ open_node ∷ word unbrace_sign 4 ∷ open_node ∷ word variable_token 7 ∷
    word name_token 8 ∷ word variable_token 9 ∷ triple_node ∷ word unbrace_sign 10 ∷ union_node ∷ join_node ∷ open_node
    ∷ word unbrace_sign 13 ∷ join_node ∷ word unbrace_sign 14 ∷ [])
unfolding computing
unions_read = refl

-- [58] { GRAPH ?g { ?x :p ?y } . }: GRAPH's brace is written, the outer one is not
graph_read : parsed
    (in_order 0
    (select_word ∷ star_sign ∷ brace_sign ∷ graph_word ∷ variable_token ∷ brace_sign ∷ variable_token ∷ name_token ∷
    variable_token ∷ unbrace_sign ∷ dot_sign ∷ unbrace_sign ∷ end_token ∷ []))
    (query_symbol ∷ []) []
    ≡ read
    (word star_sign 1 ∷ column_node ∷ open_node ∷ word variable_token 4 ∷ graph_node ∷ word variable_token 6 ∷ word
    name_token 7 ∷ word variable_token 8 ∷ triple_node ∷ word unbrace_sign 9 ∷ [])
unfolding computing
graph_read = refl

-- [111,112] ?a = 1 || ?b < 2 && ?c = 3
and_tighter : parsed
    (in_order 0
    (select_word ∷ star_sign ∷ brace_sign ∷ filter_word ∷ opens_sign ∷ variable_token ∷ equal_sign ∷ whole_token ∷ or_sign
    ∷ variable_token ∷ less_sign ∷ whole_token ∷ and_sign ∷ variable_token ∷ equal_sign ∷ whole_token ∷ closes_sign ∷
    unbrace_sign ∷ end_token ∷ []))
    (query_symbol ∷ []) []
    ≡ read
    (word star_sign 1 ∷ column_node ∷ open_node ∷ word filter_word 3 ∷ word variable_token 5 ∷ word equal_sign 6 ∷ word
    whole_token 7 ∷ compare_node ∷ word variable_token 9 ∷ word less_sign 10 ∷ word whole_token 11 ∷ compare_node ∷
    word variable_token 13 ∷ word equal_sign 14 ∷ word whole_token 15 ∷ compare_node ∷ and_node ∷ or_node ∷ filter_node
    ∷ word unbrace_sign 17 ∷ [])
unfolding computing
and_tighter = refl

-- [113,116] ! ( ?a = 1 ) && ( ?b = 2 || ?c = 3 )
not_bracket : parsed
    (in_order 0
    (select_word ∷ star_sign ∷ brace_sign ∷ filter_word ∷ opens_sign ∷ not_sign ∷ opens_sign ∷ variable_token ∷ equal_sign
    ∷ whole_token ∷ closes_sign ∷ and_sign ∷ opens_sign ∷ variable_token ∷ equal_sign ∷ whole_token ∷ or_sign ∷
    variable_token ∷ equal_sign ∷ whole_token ∷ closes_sign ∷ closes_sign ∷ dot_sign ∷ unbrace_sign ∷ end_token ∷ []))
    (query_symbol ∷ []) []
    ≡ read
    (word star_sign 1 ∷ column_node ∷ open_node ∷ word filter_word 3 ∷ word variable_token 7 ∷ word equal_sign 8 ∷ word
    whole_token 9 ∷ compare_node ∷ not_node ∷ word variable_token 13 ∷ word equal_sign 14 ∷ word whole_token 15 ∷
    compare_node ∷ word variable_token 17 ∷ word equal_sign 18 ∷ word whole_token 19 ∷ compare_node ∷ or_node ∷
    and_node ∷ filter_node ∷ word unbrace_sign 23 ∷ [])
unfolding computing
not_bracket = refl

-- [114] ?x IN (1, 007) && ?x NOT IN () && ?x IN ("1"^^xsd:integer)
in_lists : parsed
    (in_order 0
    (select_word ∷ star_sign ∷ brace_sign ∷ filter_word ∷ opens_sign ∷ variable_token ∷ in_word ∷ opens_sign ∷ whole_token
    ∷ comma_sign ∷ odd_token ∷ closes_sign ∷ and_sign ∷ variable_token ∷ not_word ∷ in_word ∷ opens_sign ∷ closes_sign ∷
    and_sign ∷ variable_token ∷ in_word ∷ opens_sign ∷ typed_whole_token ∷ typing_token ∷ name_token ∷ closes_sign ∷
    closes_sign ∷ unbrace_sign ∷ end_token ∷ []))
    (query_symbol ∷ []) []
    ≡ read
    (word star_sign 1 ∷ column_node ∷ open_node ∷ word filter_word 3 ∷ word variable_token 5 ∷ word whole_token 8 ∷
    one_of_node ∷ word odd_token 10 ∷ one_more_node ∷ word variable_token 13 ∷ never_node ∷ not_node ∷ and_node ∷ word
    variable_token 19 ∷ word typed_whole_token 22 ∷ one_of_node ∷ and_node ∷ filter_node ∷ word unbrace_sign 27 ∷ [])
unfolding computing
in_lists = refl

-- [19,23-27] GROUP BY ?x ?y ORDER BY DESC(?s) ?x LIMIT 3 OFFSET 4
endings_read : parsed
    (in_order 0
    (select_word ∷ variable_token ∷ brace_sign ∷ unbrace_sign ∷ grouping_word ∷ by_word ∷ variable_token ∷ variable_token
    ∷ order_word ∷ by_word ∷ desc_word ∷ opens_sign ∷ variable_token ∷ closes_sign ∷ variable_token ∷ limit_word ∷
    count_token ∷ offset_word ∷ count_token ∷ end_token ∷ []))
    (query_symbol ∷ []) []
    ≡ read
    (word variable_token 1 ∷ column_node ∷ open_node ∷ word unbrace_sign 3 ∷ word grouping_word 4 ∷ word variable_token
    6 ∷ by_node ∷ word variable_token 7 ∷ by_node ∷ word desc_word 10 ∷ word variable_token 12 ∷ key_by_node ∷ word
    variable_token 14 ∷ key_node ∷ word count_token 16 ∷ limit_node ∷ word count_token 18 ∷ offset_node ∷ [])
unfolding computing
endings_read = refl

-- [25] OFFSET 4 LIMIT 3
offset_first : parsed
    (in_order 0
    (select_word ∷ variable_token ∷ brace_sign ∷ unbrace_sign ∷ offset_word ∷ count_token ∷ limit_word ∷ count_token ∷
    end_token ∷ []))
    (query_symbol ∷ []) []
    ≡ read
    (word variable_token 1 ∷ column_node ∷ open_node ∷ word unbrace_sign 3 ∷ word count_token 5 ∷ offset_node ∷ word
    count_token 7 ∷ limit_node ∷ [])
unfolding computing
offset_first = refl

-- 1: a byte that is no UTF-8
fault_bad : parsed
    (in_order 0
    (select_word ∷ variable_token ∷ brace_sign ∷ bad_token ∷ unbrace_sign ∷ end_token ∷ []))
    (query_symbol ∷ []) []
    ≡ fault 1 (word bad_token 3)
unfolding computing
fault_bad = refl

-- 2: a text that does not end
fault_unended : parsed
    (in_order 0
    (select_word ∷ variable_token ∷ brace_sign ∷ variable_token ∷ name_token ∷ wrong_token ∷ end_token ∷ []))
    (query_symbol ∷ []) []
    ≡ fault 2 (word wrong_token 5)
unfolding computing
fault_unended = refl

-- 3: } where an object has to stand; the end before a brace; a word behind the pattern
fault_expected : parsed
    (in_order 0
    (select_word ∷ variable_token ∷ brace_sign ∷ variable_token ∷ name_token ∷ unbrace_sign ∷ end_token ∷ []))
    (query_symbol ∷ []) []
    ≡ fault 3 (word unbrace_sign 5)
unfolding computing
fault_expected = refl

fault_ended : parsed
    (in_order 0
    (select_word ∷ variable_token ∷ brace_sign ∷ variable_token ∷ name_token ∷ variable_token ∷ end_token ∷ []))
    (query_symbol ∷ []) []
    ≡ fault 3 (word end_token 6)
unfolding computing
fault_ended = refl

-- 3: a value as condition, ?x )
fault_verb_brackets : parsed
    (in_order 0
    (select_word ∷ variable_token ∷ brace_sign ∷ filter_word ∷ opens_sign ∷ variable_token ∷ closes_sign ∷ unbrace_sign ∷
    end_token ∷ []))
    (query_symbol ∷ []) []
    ≡ fault 3 (word closes_sign 6)
unfolding computing
fault_verb_brackets = refl

-- 3: LIMIT twice
fault_limit_twice : parsed
    (in_order 0
    (select_word ∷ variable_token ∷ brace_sign ∷ unbrace_sign ∷ limit_word ∷ count_token ∷ limit_word ∷ count_token ∷
    end_token ∷ []))
    (query_symbol ∷ []) []
    ≡ fault 3 (word limit_word 6)
unfolding computing
fault_limit_twice = refl

-- 4: a prefix that is not declared
fault_undeclared : parsed
    (in_order 0
    (select_word ∷ variable_token ∷ brace_sign ∷ variable_token ∷ undeclared_token ∷ variable_token ∷ unbrace_sign ∷
    end_token ∷ []))
    (query_symbol ∷ []) []
    ≡ fault 4 (word undeclared_token 4)
unfolding computing
fault_undeclared = refl

-- 5: OPTIONAL in a group, a sub-select, GRAPH beside FROM, GRAPH's variable within the pattern, a relative IRI
fault_unread : parsed
    (in_order 0
    (select_word ∷ variable_token ∷ brace_sign ∷ variable_token ∷ name_token ∷ variable_token ∷ dot_sign ∷ unread_token ∷
    brace_sign ∷ unbrace_sign ∷ unbrace_sign ∷ end_token ∷ []))
    (query_symbol ∷ []) []
    ≡ fault 5 (word unread_token 7)
unfolding computing
fault_unread = refl

fault_subselect : parsed
    (in_order 0
    (select_word ∷ variable_token ∷ brace_sign ∷ brace_sign ∷ select_word ∷ variable_token ∷ brace_sign ∷ unbrace_sign ∷
    unbrace_sign ∷ unbrace_sign ∷ end_token ∷ []))
    (query_symbol ∷ []) []
    ≡ fault 5 (word select_word 4)
unfolding computing
fault_subselect = refl

fault_graph_year : parsed
    (in_order 0
    (select_word ∷ variable_token ∷ from_word ∷ year_token ∷ brace_sign ∷ graph_word ∷ variable_token ∷ brace_sign ∷
    unbrace_sign ∷ unbrace_sign ∷ end_token ∷ []))
    (query_symbol ∷ []) []
    ≡ fault 5 (word graph_word 5)
unfolding computing
fault_graph_year = refl

fault_year_variable : parsed
    (in_order 0
    (select_word ∷ variable_token ∷ brace_sign ∷ graph_word ∷ variable_token ∷ brace_sign ∷ variable_token ∷ name_token ∷
    year_variable_token ∷ unbrace_sign ∷ unbrace_sign ∷ end_token ∷ []))
    (query_symbol ∷ []) []
    ≡ fault 5 (word year_variable_token 8)
unfolding computing
fault_year_variable = refl

fault_relative : parsed
    (in_order 0
    (select_word ∷ variable_token ∷ brace_sign ∷ variable_token ∷ name_token ∷ relative_token ∷ unbrace_sign ∷ end_token
    ∷ []))
    (query_symbol ∷ []) []
    ≡ fault 5 (word relative_token 5)
unfolding computing
fault_relative = refl

-- 6: 007 in a triple, true in a condition, another datatype
fault_odd : parsed
    (in_order 0
    (select_word ∷ variable_token ∷ brace_sign ∷ variable_token ∷ name_token ∷ odd_token ∷ unbrace_sign ∷ end_token ∷ []))
    (query_symbol ∷ []) []
    ≡ fault 6 (word odd_token 5)
unfolding computing
fault_odd = refl

fault_boolean : parsed
    (in_order 0
    (select_word ∷ variable_token ∷ brace_sign ∷ filter_word ∷ opens_sign ∷ variable_token ∷ equal_sign ∷
    other_value_token ∷ closes_sign ∷ unbrace_sign ∷ end_token ∷ []))
    (query_symbol ∷ []) []
    ≡ fault 6 (word other_value_token 7)
unfolding computing
fault_boolean = refl

fault_datatype : parsed
    (in_order 0
    (select_word ∷ variable_token ∷ brace_sign ∷ variable_token ∷ name_token ∷ typed_other_token ∷ typing_token ∷
    name_token ∷ unbrace_sign ∷ end_token ∷ []))
    (query_symbol ∷ []) []
    ≡ fault 6 (word name_token 7)
unfolding computing
fault_datatype = refl

-- 13: FROM a name that is no year
fault_year : parsed
    (in_order 0
    (select_word ∷ variable_token ∷ from_word ∷ name_token ∷ brace_sign ∷ unbrace_sign ∷ end_token ∷ []))
    (query_symbol ∷ []) []
    ≡ fault 13 (word name_token 3)
unfolding computing
fault_year = refl

-- ---- trees
abbrev leaf : (ks : List ℕ) (k i : ℕ) → T (is_one_of ks (word_kind (k + 128 * i))) → Leaf ks
leaf ks k i t = record { token = k + 128 * i; fits = t }

abbrev group_in : Option Pending → List GroupPattern
group_in none = []
group_in (some s) = s.groups

abbrev constraint_in : Option Pending → List Constraint
constraint_in none = []
constraint_in (some s) = s.constraints

-- ';' keeps the subject, ',' the verb as well: ?x :p 1 , 2 ; a 3
lists_built : group_in (built (open_node ∷ word variable_token 0 ∷ word name_token 1 ∷ word whole_token 2 ∷ triple_node ∷ word whole_token 4 ∷ same_verb_node
    ∷ word a_token 6 ∷ word whole_token 7 ∷ same_subject_node ∷ []) nothing_yet)
    ≡ with_triple
    (with_triple (with_triple empty (leaf objects variable_token 0 tt) (leaf verbs name_token 1 tt) (leaf objects whole_token 2 tt))
    (leaf objects variable_token 0 tt) (leaf verbs name_token 1 tt) (leaf objects whole_token 4 tt))
    (leaf objects variable_token 0 tt) (leaf verbs a_token 6 tt) (leaf objects whole_token 7 tt) ∷ []
unfolding computing
lists_built = refl

-- { } UNION { } is one part, of two groups
union_built : group_in (built (open_node ∷ open_node ∷ word unbrace_sign 2 ∷ open_node ∷ word unbrace_sign 5 ∷ union_node ∷ join_node ∷ []) nothing_yet)
    ≡ with_union empty (united (alone empty (leaf (unbrace_sign ∷ []) unbrace_sign 2 tt)) empty (leaf (unbrace_sign ∷ []) unbrace_sign 5 tt)) ∷ []
unfolding computing
union_built = refl

-- ?x = 1 || ?x NOT IN (2, 3)
condition_built : constraint_in (built (word variable_token 0 ∷ word equal_sign 1 ∷ word whole_token 2 ∷ compare_node ∷ word variable_token 4
    ∷ word whole_token 8 ∷ one_of_node ∷ word whole_token 10 ∷ one_more_node ∷ not_node ∷ or_node ∷ []) nothing_yet)
    ≡ either (compared (leaf operands variable_token 0 tt) (leaf comparison_signs equal_sign 1 tt) (leaf operands whole_token 2 tt))
    (negated (among (leaf operands variable_token 4 tt) (leaf operands whole_token 8 tt ∷ leaf operands whole_token 10 tt ∷ []))) ∷ []
unfolding computing
condition_built = refl
