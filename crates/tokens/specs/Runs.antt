-- How far runs of characters reach: blanks and comments, words, names with dots. Assumes nothing: these are definitions.
use Rattle.std.specs.Prelude.{ℕ, zero, suc, ◌+◌, ◌-◌, Bool, true, false, cond, ◌&&◌, ◌||◌, not, List, [], ◌∷◌, eqb, drop}
use Rattle.characters.specs.Sequences.{no_point}
use Rattle.tokens.specs.Classes.{is_digit, is_blank, is_line_end, is_name_letter, is_name_character, is_hex_digit, is_name_escape}

-- how many characters of a class stand first
unfoldable pub run_length : (ℕ → Bool) → List ℕ → ℕ
run_length f [] = 0
run_length f (c ∷ cs) = cond (f c) (run_length f cs + 1) 0

-- the first character is this one, or of a class
abbrev pub first_is : (ℕ → Bool) → List ℕ → Bool
first_is f [] = false
first_is f (c ∷ cs) = f c

abbrev pub starts_with : ℕ → List ℕ → Bool
starts_with a cs = first_is (λ c. eqb c a) cs

-- how many characters are blank or in comments, from # to the end of a line; a byte that is no UTF-8 is left, in a comment too
unfoldable pub blanks_length : Bool → List ℕ → ℕ
blanks_length in_comment [] = 0
blanks_length true (c ∷ cs) = cond (eqb c no_point) 0 (blanks_length (not (is_line_end c)) cs + 1)
blanks_length false (c ∷ cs) = cond (eqb c 0x23) (blanks_length true cs + 1) (cond (is_blank c) (blanks_length false cs + 1) 0)

-- a run of items, whose characters `size` counts, and of dots, up to its last item: `n` characters are read, the next `k` are still of the item that
-- has begun, and `e` is where the last item ends
unfoldable pub dotted_end : (ℕ → List ℕ → ℕ) → ℕ → List ℕ → ℕ → ℕ → ℕ
dotted_end size k [] n e = e
dotted_end size (suc k) (c ∷ cs) n e = dotted_end size k cs (n + 1) e
dotted_end size zero (c ∷ cs) n e =
    cond (eqb c 0x2E) (dotted_end size 0 cs (n + 1) e)
    (cond (eqb (size c cs) 0) e (dotted_end size (size c cs - 1) cs (n + 1) (n + size c cs)))

-- an item of a prefix and of a blank node's label [167]
abbrev pub name_item : ℕ → List ℕ → ℕ
name_item c cs = cond (is_name_character c) 1 0

-- [170] PLX: % and two hexadecimal digits [171], or an escape [173]
abbrev pub plx_item : ℕ → List ℕ → ℕ
plx_item c cs =
    cond (eqb c 0x25 && (first_is is_hex_digit cs && first_is is_hex_digit (drop 1 cs))) 3
    (cond (eqb c 0x5C && first_is is_name_escape cs) 2 0)

-- [169] PN_LOCAL: its first item, and the others
abbrev pub local_first : ℕ → List ℕ → ℕ
local_first c cs = cond (is_name_letter c || (is_digit c || eqb c 0x3A)) 1 (plx_item c cs)

abbrev pub local_item : ℕ → List ℕ → ℕ
local_item c cs = cond (is_name_character c || eqb c 0x3A) 1 (plx_item c cs)

abbrev pub local_length : List ℕ → ℕ
local_length [] = 0
local_length (c ∷ cs) = cond (eqb (local_first c cs) 0) 0 (dotted_end local_item (local_first c cs - 1) cs 1 (local_first c cs))
