-- Words: a kind in the top bits and a value or number in the low ones; the order of keys. Each kind value is written here
-- and nowhere else in the definitions. Assumes nothing: these are definitions.
use Rattle.std.specs.Prelude.{ℕ, ◌+◌, ◌*◌, ◌/◌, ◌%◌, Bool, cond, ◌||◌, not, eqb, ltb, ℤ}
use Rattle.std.proofs.Math.IntN.{sub_ℕ}

-- ---- terms: two bits of kind, 30 of value
abbrev pub term_values : ℕ
term_values = 0x40000000

-- half of them: a number from there on is below zero
abbrev pub half_values : ℕ
half_values = 0x20000000

abbrev pub name_kind : ℕ
name_kind = 0

abbrev pub number_kind : ℕ
number_kind = 1

abbrev pub text_kind : ℕ
text_kind = 2

abbrev pub variable_kind : ℕ
variable_kind = 3

-- what a delivered row has for a variable without a value
abbrev pub unbound : ℕ
unbound = 0xC0000000

abbrev pub term_kind : ℕ → ℕ
term_kind w = w / term_values

abbrev pub term_value : ℕ → ℕ
term_value w = w % term_values

-- the term of a kind and a value
abbrev pub term : ℕ → ℕ → ℕ
term kind value = kind * term_values + value

abbrev pub name : ℕ → ℕ
name value = term name_kind value

abbrev pub number : ℕ → ℕ
number value = term number_kind value

abbrev pub text : ℕ → ℕ
text value = term text_kind value

abbrev pub variable : ℕ → ℕ
variable value = term variable_kind value

abbrev pub is_variable : ℕ → Bool
is_variable w = eqb (term_kind w) variable_kind

abbrev pub is_number : ℕ → Bool
is_number w = eqb (term_kind w) number_kind

-- a word of a delivered row: of no kind 3 but unbound
abbrev pub is_value : ℕ → Bool
is_value w = not (is_variable w) || eqb w unbound

-- ---- values and the order of keys
-- two's complement, with `half` values from zero up and as many below: `n` from the half on stands for `n` less the whole
unfoldable pub signed : ℕ → ℕ → ℤ
signed half n = sub_ℕ n (cond (ltb n half) 0 (half + half))

-- what a number counts for: its 30 bits in two's complement
abbrev pub number_value : ℕ → ℤ
number_value w = signed half_values (term_value w)

-- the place of a term among those of its kind: a number's goes by what it counts for, the least first
abbrev pub value_rank : ℕ → ℕ
value_rank w = cond (is_number w) ((term_value w + half_values) % term_values) (term_value w)

-- the place of a delivered term in the order of keys: unbound, then names, numbers, texts, each by value
abbrev pub key_rank : ℕ → ℕ
key_rank w = cond (is_variable w) 0 (1 + term_kind w * term_values + value_rank w)

-- the last place of that order
abbrev pub last_rank : ℕ
last_rank = 0xC0000000

-- ---- plan words and state words: four bits of kind, 28 of count or number
abbrev pub low_numbers : ℕ
low_numbers = 0x10000000

abbrev pub kind : ℕ → ℕ
kind w = w / low_numbers

abbrev pub low : ℕ → ℕ
low w = w % low_numbers

-- the word of a kind and a number
abbrev pub word : ℕ → ℕ → ℕ
word k n = k * low_numbers + n

abbrev pub year_kind : ℕ
year_kind = 0

abbrev pub head_kind : ℕ
head_kind = 1

abbrev pub branch_kind : ℕ
branch_kind = 2

abbrev pub true_kind : ℕ
true_kind = 3

abbrev pub and_kind : ℕ
and_kind = 4

abbrev pub or_kind : ℕ
or_kind = 5

abbrev pub not_kind : ℕ
not_kind = 6

abbrev pub comparison_kind : ℕ
comparison_kind = 7

abbrev pub rows_kind : ℕ
rows_kind = 8

abbrev pub top_kind : ℕ
top_kind = 9

abbrev pub rising_kind : ℕ
rising_kind = 10

abbrev pub falling_kind : ℕ
falling_kind = 11

abbrev pub group_kind : ℕ
group_kind = 12

abbrev pub registers_kind : ℕ
registers_kind = 13

abbrev pub survey_kind : ℕ
survey_kind = 13

abbrev pub position_kind : ℕ
position_kind = 14

abbrev pub place_kind : ℕ
place_kind = 15

-- ---- the comparisons, by their numbers: = ≠ < ≤ > ≥
abbrev pub equal_to : ℕ
equal_to = 0

abbrev pub unequal_to : ℕ
unequal_to = 1

abbrev pub less_than : ℕ
less_than = 2

abbrev pub at_most : ℕ
at_most = 3

abbrev pub greater_than : ℕ
greater_than = 4

abbrev pub at_least : ℕ
at_least = 5

-- the last of them
abbrev pub last_operator : ℕ
last_operator = at_least

-- ---- years: the last that a row may have or a plan may name, and the word of one in a plan or a state
abbrev pub most_year : ℕ
most_year = 9999

abbrev pub year_word : ℕ → ℕ
year_word year = word year_kind year

-- ---- a state's words: the survey's number; the year; branch × 16 + depth; a place
abbrev pub survey_word : ℕ → ℕ
survey_word survey = word survey_kind survey

abbrev pub depths : ℕ
depths = 16

abbrev pub position_word : ℕ → ℕ → ℕ
position_word branch depth = word position_kind (branch * depths + depth)

abbrev pub place_word : ℕ → ℕ
place_word place = word place_kind place

abbrev pub branch_of : ℕ → ℕ
branch_of w = low w / depths

abbrev pub depth_of : ℕ → ℕ
depth_of w = low w % depths
