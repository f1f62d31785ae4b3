-- Endings: what a plan makes of its rows. Variables stand as their words, keys as theirs. Assumes nothing: these are definitions.
use Rattle.std.specs.Prelude.{ℕ, ◌+◌, Bool, false, cond, ◌&&◌, ◌||◌, not, List, [], eqb, leb, length, take, drop, get_or}
use Rattle.words.specs.Words.{kind, low, is_variable, variable, rows_kind, top_kind, rising_kind, falling_kind, group_kind, registers_kind}
use Rattle.sequences.specs.Sequences.{all, member, distinct}
use Rattle.plans.specs.declared.EndingKind.{EndingKind}
use Rattle.plans.specs.declared.EndingKind.TheVariants.{Rows, Top, Group, Registers, Invalid}

-- rows: their variables. top: how many, the rows' variables, the keys. group: the group variables, the measured one. registers: the variable whose
-- distinct values are counted, roughly
pub data Ending : Type 0 where
  rows : List ℕ → Ending
  top : ℕ → List ℕ → List ℕ → Ending
  group : List ℕ → ℕ → Ending
  registers : ℕ → Ending

abbrev pub most_row_variables : ℕ
most_row_variables = 16

abbrev pub most_best : ℕ
most_best = 64

abbrev pub most_keys : ℕ
most_keys = 4

abbrev pub most_group_variables : ℕ
most_group_variables = 4

-- how many rows a best-of list keeps where the plan gives no number
abbrev pub default_best : ℕ
default_best = 10

-- how many it keeps, by the k that a plan has
abbrev pub best_count : ℕ → ℕ
best_count k = cond (eqb k 0) default_best k

-- ---- the form of an ending, in test 5
-- the variables that a kind 8 word names, 0 where it is no such word
abbrev pub row_width : ℕ → ℕ
row_width w = cond (eqb (kind w) rows_kind) (cond (leb (low w) most_row_variables) (low w) 0) 0

-- a kind 8 part: its variables, what follows it, and its form
abbrev pub row_variables : List ℕ → List ℕ
row_variables ws = take (row_width (get_or ws 0 0)) (drop 1 ws)

abbrev pub after_rows : List ℕ → List ℕ
after_rows ws = drop (1 + row_width (get_or ws 0 0)) ws

unfoldable pub rows_form : List ℕ → Bool
rows_form ws =
    not (eqb (row_width (get_or ws 0 0)) 0)
    && (leb (1 + row_width (get_or ws 0 0)) (length ws) && all is_variable (row_variables ws))

abbrev pub is_key : ℕ → Bool
is_key w = eqb (kind w) rising_kind || eqb (kind w) falling_kind

-- the keys are all the words that are left
unfoldable pub keys_form : List ℕ → Bool
keys_form ws = not (eqb (length ws) 0) && (leb (length ws) most_keys && all is_key ws)

-- what an ending's first word begins
unfoldable pub ending_kind_of : ℕ → EndingKind
ending_kind_of w =
    cond (eqb (kind w) rows_kind) Rows
    (cond (eqb (kind w) top_kind) (cond (leb (low w) most_best) Top Invalid)
    (cond (eqb (kind w) group_kind) (cond (leb (low w) most_group_variables) Group Invalid)
    (cond (eqb (kind w) registers_kind) (cond (eqb (low w) 0) Registers Invalid) Invalid)))

-- the words are one ending and nothing more
unfoldable pub form_as : EndingKind → List ℕ → Bool
form_as Rows ws = rows_form ws && eqb (length ws) (1 + row_width (get_or ws 0 0))
form_as Top ws = rows_form (drop 1 ws) && keys_form (after_rows (drop 1 ws))
form_as Group ws = eqb (length ws) (2 + low (get_or ws 0 0)) && all is_variable (drop 1 ws)
form_as Registers ws = eqb (length ws) 2 && all is_variable (drop 1 ws)
form_as Invalid ws = false

abbrev pub ending_form : List ℕ → Bool
ending_form ws = form_as (ending_kind_of (get_or ws 0 0)) ws

-- the ending of words that have the form
unfoldable pub ending_as : EndingKind → List ℕ → Ending
ending_as Rows ws = rows (row_variables ws)
ending_as Top ws = top (best_count (low (get_or ws 0 0))) (row_variables (drop 1 ws)) (after_rows (drop 1 ws))
ending_as Group ws = group (take (low (get_or ws 0 0)) (drop 1 ws)) (get_or ws (1 + low (get_or ws 0 0)) 0)
ending_as Registers ws = registers (get_or ws 1 0)
ending_as Invalid ws = rows []

abbrev pub ending_at : List ℕ → Ending
ending_at ws = ending_as (ending_kind_of (get_or ws 0 0)) ws

-- ---- the variables of an ending, in test 6
-- a key's variable is among the rows' variables
abbrev pub key_among : List ℕ → ℕ → Bool
key_among vs key = member (variable (low key)) vs

-- each variable is bound, and none is repeated; the measured variable may be a group variable
unfoldable pub ending_right : (ℕ → Bool) → Ending → Bool
ending_right bound (rows vs) = all bound vs && distinct vs
ending_right bound (top k vs keys) = (all bound vs && distinct vs) && all (key_among vs) keys
ending_right bound (group vs m) = (all bound vs && distinct vs) && bound m
ending_right bound (registers v) = bound v
