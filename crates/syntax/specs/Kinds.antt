-- The numbers of the grammar's kinds of tokens, symbols and nodes. Assumes nothing: these are definitions.
use Rattle.std.specs.Prelude.{ℕ, List, [], ◌∷◌}

-- the kinds of tokens
abbrev pub end_token : ℕ
end_token = 0

abbrev pub variable_token : ℕ
variable_token = 1

abbrev pub name_token : ℕ
name_token = 2

abbrev pub whole_token : ℕ
whole_token = 3

abbrev pub typed_whole_token : ℕ
typed_whole_token = 4

abbrev pub odd_token : ℕ
odd_token = 5

abbrev pub typed_odd_token : ℕ
typed_odd_token = 6

abbrev pub text_token : ℕ
text_token = 7

abbrev pub typed_text_token : ℕ
typed_text_token = 8

abbrev pub prefix_name_token : ℕ
prefix_name_token = 9

abbrev pub prefix_iri_token : ℕ
prefix_iri_token = 10

abbrev pub year_token : ℕ
year_token = 11

abbrev pub count_token : ℕ
count_token = 12

abbrev pub year_variable_token : ℕ
year_variable_token = 13

abbrev pub undeclared_token : ℕ
undeclared_token = 14

abbrev pub relative_token : ℕ
relative_token = 15

abbrev pub typed_other_token : ℕ
typed_other_token = 16

abbrev pub other_value_token : ℕ
other_value_token = 17

abbrev pub unread_token : ℕ
unread_token = 18

abbrev pub bad_token : ℕ
bad_token = 20

abbrev pub wrong_token : ℕ
wrong_token = 21

abbrev pub typing_token : ℕ
typing_token = 22

abbrev pub a_token : ℕ
a_token = 23

abbrev pub prefix_word : ℕ
prefix_word = 24

abbrev pub select_word : ℕ
select_word = 25

abbrev pub distinct_word : ℕ
distinct_word = 26

abbrev pub from_word : ℕ
from_word = 27

abbrev pub where_word : ℕ
where_word = 28

abbrev pub graph_word : ℕ
graph_word = 29

abbrev pub filter_word : ℕ
filter_word = 30

abbrev pub union_word : ℕ
union_word = 31

abbrev pub grouping_word : ℕ
grouping_word = 32

abbrev pub by_word : ℕ
by_word = 33

abbrev pub order_word : ℕ
order_word = 34

abbrev pub asc_word : ℕ
asc_word = 35

abbrev pub desc_word : ℕ
desc_word = 36

abbrev pub limit_word : ℕ
limit_word = 37

abbrev pub offset_word : ℕ
offset_word = 38

abbrev pub as_word : ℕ
as_word = 39

abbrev pub count_word : ℕ
count_word = 40

abbrev pub sum_word : ℕ
sum_word = 41

abbrev pub min_word : ℕ
min_word = 42

abbrev pub max_word : ℕ
max_word = 43

abbrev pub avg_word : ℕ
avg_word = 44

abbrev pub approx_word : ℕ
approx_word = 45

abbrev pub in_word : ℕ
in_word = 46

abbrev pub not_word : ℕ
not_word = 47

abbrev pub brace_sign : ℕ
brace_sign = 48

abbrev pub unbrace_sign : ℕ
unbrace_sign = 49

abbrev pub opens_sign : ℕ
opens_sign = 50

abbrev pub closes_sign : ℕ
closes_sign = 51

abbrev pub dot_sign : ℕ
dot_sign = 52

abbrev pub semicolon_sign : ℕ
semicolon_sign = 53

abbrev pub comma_sign : ℕ
comma_sign = 54

abbrev pub star_sign : ℕ
star_sign = 55

abbrev pub equal_sign : ℕ
equal_sign = 56

abbrev pub unequal_sign : ℕ
unequal_sign = 57

abbrev pub less_sign : ℕ
less_sign = 58

abbrev pub at_most_sign : ℕ
at_most_sign = 59

abbrev pub greater_sign : ℕ
greater_sign = 60

abbrev pub at_least_sign : ℕ
at_least_sign = 61

abbrev pub and_sign : ℕ
and_sign = 62

abbrev pub or_sign : ℕ
or_sign = 63

abbrev pub not_sign : ℕ
not_sign = 64

-- the symbols that wait for tokens: the number is that of the grammar's row
abbrev pub query_symbol : ℕ
query_symbol = 0

abbrev pub prefix_name_symbol : ℕ
prefix_name_symbol = 1

abbrev pub prefix_iri_symbol : ℕ
prefix_iri_symbol = 2

abbrev pub head_symbol : ℕ
head_symbol = 3

abbrev pub columns_symbol : ℕ
columns_symbol = 4

abbrev pub more_columns_symbol : ℕ
more_columns_symbol = 5

abbrev pub aggregate_symbol : ℕ
aggregate_symbol = 6

abbrev pub counted_symbol : ℕ
counted_symbol = 7

abbrev pub variable_symbol : ℕ
variable_symbol = 8

abbrev pub dataset_symbol : ℕ
dataset_symbol = 9

abbrev pub begin_symbol : ℕ
begin_symbol = 10

abbrev pub year_symbol : ℕ
year_symbol = 11

abbrev pub from_where_symbol : ℕ
from_where_symbol = 12

abbrev pub from_begin_symbol : ℕ
from_begin_symbol = 13

abbrev pub whole_symbol : ℕ
whole_symbol = 14

abbrev pub parts_symbol : ℕ
parts_symbol = 15

abbrev pub after_triples_symbol : ℕ
after_triples_symbol = 16

abbrev pub dot_symbol : ℕ
dot_symbol = 17

abbrev pub more_union_symbol : ℕ
more_union_symbol = 18

abbrev pub verb_symbol : ℕ
verb_symbol = 19

abbrev pub more_verbs_symbol : ℕ
more_verbs_symbol = 20

abbrev pub verb_or_end_symbol : ℕ
verb_or_end_symbol = 21

abbrev pub more_objects_symbol : ℕ
more_objects_symbol = 22

abbrev pub object_symbol : ℕ
object_symbol = 23

abbrev pub typing_symbol : ℕ
typing_symbol = 24

abbrev pub datatype_symbol : ℕ
datatype_symbol = 25

abbrev pub other_type_symbol : ℕ
other_type_symbol = 26

abbrev pub bracket_symbol : ℕ
bracket_symbol = 27

abbrev pub member_symbol : ℕ
member_symbol = 28

abbrev pub more_and_symbol : ℕ
more_and_symbol = 29

abbrev pub more_or_symbol : ℕ
more_or_symbol = 30

abbrev pub comparison_symbol : ℕ
comparison_symbol = 31

abbrev pub members_symbol : ℕ
members_symbol = 32

abbrev pub more_members_symbol : ℕ
more_members_symbol = 33

abbrev pub operand_symbol : ℕ
operand_symbol = 34

abbrev pub group_by_symbol : ℕ
group_by_symbol = 35

abbrev pub group_name_symbol : ℕ
group_name_symbol = 36

abbrev pub more_names_symbol : ℕ
more_names_symbol = 37

abbrev pub order_by_symbol : ℕ
order_by_symbol = 38

abbrev pub key_symbol : ℕ
key_symbol = 39

abbrev pub more_keys_symbol : ℕ
more_keys_symbol = 40

abbrev pub limits_symbol : ℕ
limits_symbol = 41

abbrev pub offset_symbol : ℕ
offset_symbol = 42

abbrev pub limit_symbol : ℕ
limit_symbol = 43

abbrev pub number_symbol : ℕ
number_symbol = 44

abbrev pub unbrace_symbol : ℕ
unbrace_symbol = 45

abbrev pub outer_brace_symbol : ℕ
outer_brace_symbol = 46

abbrev pub brace_symbol : ℕ
brace_symbol = 47

abbrev pub opens_symbol : ℕ
opens_symbol = 48

abbrev pub closes_symbol : ℕ
closes_symbol = 49

abbrev pub as_symbol : ℕ
as_symbol = 50

abbrev pub by_symbol : ℕ
by_symbol = 51

abbrev pub in_symbol : ℕ
in_symbol = 52

abbrev pub end_symbol : ℕ
end_symbol = 53

-- the nodes, which are written
abbrev pub column_node : ℕ
column_node = 96

abbrev pub aggregate_node : ℕ
aggregate_node = 97

abbrev pub count_distinct_node : ℕ
count_distinct_node = 98

abbrev pub from_node : ℕ
from_node = 99

abbrev pub open_node : ℕ
open_node = 100

abbrev pub graph_node : ℕ
graph_node = 101

abbrev pub triple_node : ℕ
triple_node = 102

abbrev pub same_subject_node : ℕ
same_subject_node = 103

abbrev pub same_verb_node : ℕ
same_verb_node = 104

abbrev pub filter_node : ℕ
filter_node = 105

abbrev pub union_node : ℕ
union_node = 106

abbrev pub join_node : ℕ
join_node = 107

abbrev pub compare_node : ℕ
compare_node = 108

abbrev pub one_of_node : ℕ
one_of_node = 109

abbrev pub one_more_node : ℕ
one_more_node = 110

abbrev pub never_node : ℕ
never_node = 111

abbrev pub not_node : ℕ
not_node = 112

abbrev pub and_node : ℕ
and_node = 113

abbrev pub or_node : ℕ
or_node = 114

abbrev pub by_node : ℕ
by_node = 115

abbrev pub key_node : ℕ
key_node = 116

abbrev pub key_by_node : ℕ
key_by_node = 117

abbrev pub limit_node : ℕ
limit_node = 118

abbrev pub offset_node : ℕ
offset_node = 119

-- kinds that stand alike
abbrev pub variable_kinds : List ℕ
variable_kinds = variable_token ∷ []

abbrev pub plain_operands : List ℕ
plain_operands = variable_token ∷ name_token ∷ whole_token ∷ odd_token ∷ text_token ∷ []

abbrev pub typed_operands : List ℕ
typed_operands = typed_whole_token ∷ typed_odd_token ∷ typed_text_token ∷ []

abbrev pub plain_objects : List ℕ
plain_objects = variable_token ∷ name_token ∷ whole_token ∷ text_token ∷ []

abbrev pub typed_objects : List ℕ
typed_objects = typed_whole_token ∷ typed_text_token ∷ []

abbrev pub operands : List ℕ
operands = variable_token ∷ name_token ∷ whole_token ∷ typed_whole_token ∷ odd_token ∷ typed_odd_token ∷ text_token ∷ typed_text_token ∷ []

abbrev pub objects : List ℕ
objects = variable_token ∷ name_token ∷ whole_token ∷ typed_whole_token ∷ text_token ∷ typed_text_token ∷ []

abbrev pub verbs : List ℕ
verbs = variable_token ∷ name_token ∷ a_token ∷ []

abbrev pub comparison_signs : List ℕ
comparison_signs = equal_sign ∷ unequal_sign ∷ less_sign ∷ at_most_sign ∷ greater_sign ∷ at_least_sign ∷ []

abbrev pub measures : List ℕ
measures = sum_word ∷ min_word ∷ max_word ∷ avg_word ∷ approx_word ∷ []

abbrev pub countables : List ℕ
countables = star_sign ∷ variable_token ∷ []

abbrev pub directions : List ℕ
directions = asc_word ∷ desc_word ∷ []
