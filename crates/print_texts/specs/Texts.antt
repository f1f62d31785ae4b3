-- The texts of the turn printer, as lists of bytes: numbers in decimal, terms, words of a line. Assumes nothing: these are definitions.
use Rattle.std.specs.Prelude.{ℕ, zero, suc, ◌+◌, ◌/◌, ◌%◌, true, false, cond, eqb, ltb, ℤ, pos, negsuc}
use mathlib.Core.List.{List, [], ◌∷◌, ◌++◌, map, flatten}
use Rattle.words.specs.Words.{term_kind, term_value, name_kind, number_kind, is_variable, is_number, number_value}

-- a text: its characters by their ASCII codes
abbrev pub Text : Type 0
Text = List ℕ

abbrev pub newline : ℕ
newline = 10

abbrev pub blank : ℕ
blank = 32

abbrev pub dash : ℕ
dash = 45

-- ---- numbers
-- the character of a digit: 0 is the code 48
abbrev pub digit : ℕ → ℕ
digit d = 48 + d

-- the last k digits of a number, fewer where it has fewer: the digits of a tenth of it, and then its last one
unfoldable pub digits_in : ℕ → ℕ → Text
digits_in zero n = []
digits_in (suc k) n =
    elim (ltb n 10) [ true ↦ digit n ∷ [] | false ↦ digits_in k (n / 10) ++ (digit (n % 10) ∷ []) ]

-- a number in decimal, with no leading zero; 0 is one digit. No number has more digits than its successor says
unfoldable pub decimal : ℕ → Text
decimal n = digits_in (suc n) n

-- a number of either sign, with a dash before one below zero; negsuc n is -(n + 1)
unfoldable pub integer_text : ℤ → Text
integer_text (pos n) = decimal n
integer_text (negsuc n) = dash ∷ decimal (suc n)

-- ---- terms
abbrev pub letter_n : ℕ
letter_n = 110

abbrev pub letter_i : ℕ
letter_i = 105

abbrev pub letter_t : ℕ
letter_t = 116

-- the letter of a kind: n for a name, i for a number, t for a text
abbrev pub kind_letter : ℕ → ℕ
kind_letter k = cond (eqb k name_kind) letter_n (cond (eqb k number_kind) letter_i letter_t)

-- the value in decimal, a number's with its sign
unfoldable pub value_text : ℕ → Text
value_text w = cond (is_number w) (integer_text (number_value w)) (decimal (term_value w))

-- a letter and the value; unbound, the one word of kind 3 that a row has, is a dash
unfoldable pub term_text : ℕ → Text
term_text w = cond (is_variable w) (dash ∷ []) (kind_letter (term_kind w) ∷ value_text w)

-- ---- fields of a line, each after a blank
abbrev pub number_field : ℕ → Text
number_field n = blank ∷ decimal n

abbrev pub integer_field : ℤ → Text
integer_field z = blank ∷ integer_text z

abbrev pub term_field : ℕ → Text
term_field w = blank ∷ term_text w

-- the fields of some words, one after the other
unfoldable pub fields : (ℕ → Text) → List ℕ → Text
fields f ws = flatten (map f ws)

abbrev pub number_fields : List ℕ → Text
number_fields ns = fields number_field ns

abbrev pub term_fields : List ℕ → Text
term_fields ws = fields term_field ws

-- ---- the words of the lines
-- row
abbrev pub row_word : Text
row_word = 114 ∷ 111 ∷ 119 ∷ []

-- group
abbrev pub group_word : Text
group_word = 103 ∷ 114 ∷ 111 ∷ 117 ∷ 112 ∷ []

-- list
abbrev pub list_word : Text
list_word = 108 ∷ 105 ∷ 115 ∷ 116 ∷ []

-- turn
abbrev pub turn_word : Text
turn_word = 116 ∷ 117 ∷ 114 ∷ 110 ∷ []

-- steps, after a blank
abbrev pub steps_word : Text
steps_word = blank ∷ 115 ∷ 116 ∷ 101 ∷ 112 ∷ 115 ∷ []

-- done, spent and full, each after a blank and with the end of the line
abbrev pub done_word : Text
done_word = blank ∷ 100 ∷ 111 ∷ 110 ∷ 101 ∷ newline ∷ []

abbrev pub spent_word : Text
spent_word = blank ∷ 115 ∷ 112 ∷ 101 ∷ 110 ∷ 116 ∷ newline ∷ []

abbrev pub full_word : Text
full_word = blank ∷ 102 ∷ 117 ∷ 108 ∷ 108 ∷ newline ∷ []

-- refused
abbrev pub refused_word : Text
refused_word = 114 ∷ 101 ∷ 102 ∷ 117 ∷ 115 ∷ 101 ∷ 100 ∷ []
