-- The lines of the turn printer: a row, a group, any other list, a turn, a refusal; and how long a line is at most. Assumes nothing:
-- these are definitions.
use Rattle.std.specs.Prelude.{ℕ, ◌+◌, List, [], ◌∷◌, ◌++◌, ℤ}
use Rattle.lists.specs.Sums.{sum_in}
use Rattle.lists.specs.Groups.{Group, pair_at}
use Rattle.turns.specs.declared.TurnEnding.{TurnEnding}
use Rattle.turns.specs.declared.TurnEnding.TheVariants.{Done, Spent, Full, Refused}
use Rattle.print_texts.specs.Texts.{Text, newline, number_field, integer_field, term_fields, number_fields, row_word, group_word, list_word, turn_word}
use Rattle.print_texts.specs.Texts.{steps_word, done_word, spent_word, full_word, refused_word}

-- a row: its terms
unfoldable pub row_line : List ℕ → Text
row_line ws = row_word ++ (term_fields ws ++ (newline ∷ []))

-- rows, numbers and sum, the sum with its sign
abbrev pub totals_fields : ℕ → ℕ → ℤ → Text
totals_fields rows numbers sum = number_field rows ++ number_field numbers ++ integer_field sum

-- as the words of a record with n keys have them
abbrev pub totals_text : ℕ → List ℕ → Text
totals_text n ws = totals_fields (pair_at ws n) (pair_at ws (n + 2)) (sum_in (pair_at ws (n + 4)))

-- the fields of a record: keys, rows, numbers, sum, least, greatest
unfoldable pub group_fields : Group → Text
group_fields g =
    term_fields g.keys ++ totals_fields g.rows g.numbers g.sum ++ term_fields (g.least ∷ g.greatest ∷ [])

unfoldable pub group_line : Group → Text
group_line g = group_word ++ (group_fields g ++ (newline ∷ []))

-- any other list: its words in decimal
unfoldable pub list_line : List ℕ → Text
list_line ws = list_word ++ (number_fields ws ++ (newline ∷ []))

-- a refusal: its number
unfoldable pub refused_line : ℕ → Text
refused_line x = refused_word ++ (number_field x ++ (newline ∷ []))

-- a turn: its number, its steps, its ending
abbrev pub served_line : ℕ → ℕ → Text → Text
served_line n steps ending = (turn_word ++ number_field n) ++ (steps_word ++ number_field steps) ++ ending

unfoldable pub turn_line : ℕ → ℕ → TurnEnding → Text
turn_line n steps Done = served_line n steps done_word
turn_line n steps Spent = served_line n steps spent_word
turn_line n steps Full = served_line n steps full_word
turn_line n steps (Refused x) = refused_line x

-- ---- bytes that hold any line of a kind: a row of 16 terms, a record of 4 keys, a turn
abbrev pub row_line_room : ℕ
row_line_room = 256

abbrev pub group_line_room : ℕ
group_line_room = 192

abbrev pub turn_line_room : ℕ
turn_line_room = 64
