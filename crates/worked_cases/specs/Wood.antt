-- The three-stem wood of the rules (docs/RULES.md, 11), plan A and its variants.
use Rattle.std.specs.Prelude.{ℕ, List, [], ◌∷◌, ◌++◌, map, length}
use Rattle.words.specs.Words.{name, number, variable, word, survey_word, year_word, position_word, place_word, head_kind, branch_kind, true_kind, or_kind}
use Rattle.words.specs.Words.{not_kind, comparison_kind, unbound, equal_to, less_than, at_least, rows_kind, top_kind, rising_kind, falling_kind, group_kind}
use Rattle.tables.specs.Tables.{Tables}

-- ---- tables
-- the year of the wood, as a row has it
abbrev pub i2026 : ℕ
i2026 = number 2026

abbrev pub wood : Tables
wood =
    record {
      rows =
          i2026 ∷ name 1 ∷ name 10 ∷ name 100 ∷ i2026 ∷ name 1 ∷ name 12 ∷ number 45
          ∷ i2026 ∷ name 2 ∷ name 10 ∷ name 100 ∷ i2026 ∷ name 2 ∷ name 12 ∷ number 310
          ∷ i2026 ∷ name 3 ∷ name 10 ∷ name 100 ∷ i2026 ∷ name 3 ∷ name 12 ∷ number 310 ∷ [];
      pos = 0 ∷ 2 ∷ 4 ∷ 1 ∷ 3 ∷ 5 ∷ [];
      osp = 0 ∷ 2 ∷ 4 ∷ 1 ∷ 3 ∷ 5 ∷ [];
    }

abbrev pub no_rows : Tables
no_rows = record { rows = []; pos = []; osp = [] }

-- the wood with other rows, or with another list
abbrev pub with_rows : List ℕ → Tables
with_rows rows = record { rows = rows; pos = wood.pos; osp = wood.osp }

abbrev pub with_osp : List ℕ → Tables
with_osp osp = record { rows = wood.rows; pos = wood.pos; osp = osp }

-- i-1, i-3 and i-5, as words
abbrev pub minus1 : ℕ
minus1 = 0x7FFFFFFF

abbrev pub minus3 : ℕ
minus3 = 0x7FFFFFFD

abbrev pub minus5 : ℕ
minus5 = 0x7FFFFFFB

-- the wood with other diameters
abbrev pub diameters_are : ℕ → ℕ → ℕ → Tables
diameters_are a b c =
    with_rows
    (i2026 ∷ name 1 ∷ name 10 ∷ name 100 ∷ i2026 ∷ name 1 ∷ name 12 ∷ a
    ∷ i2026 ∷ name 2 ∷ name 10 ∷ name 100 ∷ i2026 ∷ name 2 ∷ name 12 ∷ b
    ∷ i2026 ∷ name 3 ∷ name 10 ∷ name 100 ∷ i2026 ∷ name 3 ∷ name 12 ∷ c ∷ [])

-- ---- plans
-- the branch ?0 n10 n100, ?0 n12 ?1 with a condition
abbrev pub branch_a : List ℕ → List ℕ
branch_a condition =
    word branch_kind 2 ∷ variable 0 ∷ name 10 ∷ name 100 ∷ variable 0 ∷ name 12 ∷ variable 1 ∷ condition

-- the branch ?0 n10 n100 alone
abbrev pub branch_b : List ℕ
branch_b = word branch_kind 1 ∷ variable 0 ∷ name 10 ∷ name 100 ∷ word true_kind 0 ∷ []

abbrev pub always : List ℕ
always = word true_kind 0 ∷ []

-- ?1 ≥ i70
abbrev pub at_least70 : List ℕ
at_least70 = word comparison_kind at_least ∷ variable 1 ∷ number 70 ∷ []

-- ?1 ≥ i1000, false on every row
abbrev pub at_least1000 : List ℕ
at_least1000 = word comparison_kind at_least ∷ variable 1 ∷ number 1000 ∷ []

abbrev pub less_words : ℕ → ℕ → List ℕ
less_words a b = word comparison_kind less_than ∷ a ∷ b ∷ []

-- n1 < i5, an error
abbrev pub wrong_kinds : List ℕ
wrong_kinds = less_words (name 1) (number 5)

abbrev pub not_error : List ℕ
not_error = word not_kind 0 ∷ wrong_kinds

abbrev pub or_error : List ℕ
or_error = word or_kind 0 ∷ word comparison_kind equal_to ∷ number 1 ∷ number 1 ∷ wrong_kinds

abbrev pub rows01 : List ℕ
rows01 = word rows_kind 2 ∷ variable 0 ∷ variable 1 ∷ []

-- the best k rows ?0 ?1 by ?1
abbrev pub top_falling : ℕ → List ℕ
top_falling k = word top_kind k ∷ (rows01 ++ (word falling_kind 1 ∷ []))

abbrev pub top_rising : ℕ → List ℕ
top_rising k = word top_kind k ∷ (rows01 ++ (word rising_kind 1 ∷ []))

-- the best k rows ?1 by ?1
abbrev pub top_diameters : ℕ → List ℕ
top_diameters k = word top_kind k ∷ word rows_kind 1 ∷ variable 1 ∷ word falling_kind 1 ∷ []

-- one group, measuring ?1; a group for each ?0
abbrev pub group1 : List ℕ
group1 = word group_kind 0 ∷ variable 1 ∷ []

abbrev pub groups0 : List ℕ
groups0 = word group_kind 1 ∷ variable 0 ∷ variable 1 ∷ []

abbrev pub plan_with : List ℕ → List ℕ → List ℕ
plan_with condition ending = word head_kind 1 ∷ (branch_a condition ++ ending)

abbrev pub plan_a : List ℕ
plan_a = plan_with at_least70 rows01

abbrev pub plan_twice : List ℕ
plan_twice = word head_kind 2 ∷ (branch_a at_least70 ++ (branch_a at_least70 ++ rows01))

abbrev pub plan_top : List ℕ
plan_top = plan_with at_least70 (top_falling 1)

abbrev pub plan_group : List ℕ
plan_group = plan_with always group1

-- rows of branch A, then rows in which ?1 is unbound
abbrev pub plan_unbound : List ℕ
plan_unbound = word head_kind 2 ∷ (branch_a always ++ (branch_b ++ top_rising 1))

-- ---- states and rows
-- a state of branch 0 at some places, over survey 7: in a year, and in that of the wood
abbrev pub year_state : ℕ → List ℕ → List ℕ
year_state year places = survey_word 7 ∷ year_word year ∷ position_word 0 (length places) ∷ map place_word places

abbrev pub state_at : List ℕ → List ℕ
state_at places = year_state 2026 places

-- without rows the year is 0
abbrev pub start_of_nothing : List ℕ
start_of_nothing = year_state 0 (0 ∷ [])

abbrev pub start_of_a : List ℕ
start_of_a = state_at (0 ∷ [])

-- the record of no rows, and that of the three stems
abbrev pub no_rows_record : List ℕ
no_rows_record = 0 ∷ 0 ∷ 0 ∷ 0 ∷ 0 ∷ 0 ∷ unbound ∷ unbound ∷ []

abbrev pub three_stems : List ℕ
three_stems = 3 ∷ 0 ∷ 3 ∷ 0 ∷ 665 ∷ 0 ∷ number 45 ∷ number 310 ∷ []

-- the record of one row, with the words of its sum and its number
abbrev pub one_summed : ℕ → ℕ → ℕ → List ℕ
one_summed low high n = 1 ∷ 0 ∷ 1 ∷ 0 ∷ low ∷ high ∷ n ∷ n ∷ []

-- a row of a stem and its diameter
abbrev pub stem : ℕ → ℕ → List ℕ
stem n i = name n ∷ number i ∷ []
