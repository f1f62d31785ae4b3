-- Comparisons of a variable with a constant that the dictionary has, or has not. Assumes nothing: these are definitions.
use Rattle.std.specs.Prelude.{ℕ, ◌+◌, ◌≡◌, cond, List, ◌++◌, eqb, leb, length, take}
use Rattle.words.specs.Words.{half_values, number, equal_to, unequal_to, less_than, at_most, greater_than, at_least}
use Rattle.plans.specs.Conditions.{Condition, both, either, compared}
use Rattle.constants.specs.declared.Constant.{Constant}
use Rattle.constants.specs.declared.Constant.TheVariants.{Term, NoName, NoText, Below, Above}

-- the greatest and the least number that a table holds
abbrev pub greatest_number : ℕ
greatest_number = number 0x1FFFFFFF

abbrev pub least_number : ℕ
least_number = number half_values

-- a text that no row has: `ranked` is the text at its rank, `after` the one after the last
abbrev pub with_no_text : ℕ → ℕ → ℕ → ℕ → Condition
with_no_text after ranked o x =
    cond (leb o unequal_to) (compared o x after) (cond (leb o at_most) (compared less_than x ranked) (compared at_least x ranked))

-- a number that no row has equals none: two numbers are not both equal to one, and one of two differs
abbrev pub with_no_number : ℕ → ℕ → Condition
with_no_number o x =
    cond (eqb o equal_to) (both (compared equal_to x (number 0)) (compared equal_to x (number 1)))
    (either (compared unequal_to x (number 0)) (compared unequal_to x (number 1)))

-- below or above all numbers that a table holds: by the nearest of those, of which `less` asks what < and ≤ ask, and `more` what > and ≥ ask
abbrev pub with_far : ℕ → ℕ → ℕ → ℕ → ℕ → Condition
with_far less more nearest o x =
    cond (leb o unequal_to) (with_no_number o x) (cond (leb o at_most) (compared less x nearest) (compared more x nearest))

abbrev pub with_below : ℕ → ℕ → Condition
with_below o x = with_far less_than at_least least_number o x

abbrev pub with_above : ℕ → ℕ → Condition
with_above o x = with_far at_most greater_than greatest_number o x

-- a variable and a constant on its right; `no_name` and `no_text_word` are the words after the last name and the last text
unfoldable pub compared_with : ℕ → ℕ → ℕ → ℕ → Constant → Condition
compared_with no_name no_text_word o x (Term w) = compared o x w
compared_with no_name no_text_word o x NoName = compared o x no_name
compared_with no_name no_text_word o x (NoText ranked) = with_no_text no_text_word ranked o x
compared_with no_name no_text_word o x Below = with_below o x
compared_with no_name no_text_word o x Above = with_above o x

-- ---- words behind the first ones of a buffer
abbrev pub Appended : List ℕ → ℕ → List ℕ → List ℕ → ℕ → Type 0
Appended before at ws after r = (r ≡ at + length ws) × (length after ≡ length before) × (take r after ≡ take at before ++ ws)
