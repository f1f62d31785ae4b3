-- Lines of the rules (docs/RULES.md, 12), byte by byte.
use mathlib.Core.Path.{◌≡◌, refl}
use mathlib.Core.List.{[], ◌∷◌, flatten}
use lib.IntN.{pos}
use Rattle.words.specs.Words.{name, number, text, unbound}
use Rattle.words.specs.Computing as words
use Rattle.lists.specs.Groups.{of_nothing, group_in}
use Rattle.lists.specs.Computing as lists
use Rattle.turns.specs.declared.TurnEnding.TheVariants.{Spent}
use Rattle.print_lines.specs.Lines.{row_line, group_line, turn_line, list_line}
use Rattle.print_lines.specs.Computing.{computing}

-- row n2 i310 t0 -
row_example : row_line (name 2 ∷ number 310 ∷ text 0 ∷ unbound ∷ [])
    ≡ 114 ∷ 111 ∷ 119 ∷ 32 ∷ 110 ∷ 50 ∷ 32 ∷ 105 ∷ 51 ∷ 49 ∷ 48 ∷ 32 ∷ 116 ∷ 48 ∷ 32 ∷ 45 ∷ 10 ∷ []
unfolding words.computing computing flatten
row_example = refl

-- group 3 3 665 i45 i310
group_example : group_line (record { keys = []; rows = 3; numbers = 3; sum = pos 665; least = number 45; greatest = number 310 })
    ≡ 103 ∷ 114 ∷ 111 ∷ 117 ∷ 112 ∷ 32 ∷ 51 ∷ 32 ∷ 51 ∷ 32 ∷ 54 ∷ 54 ∷ 53 ∷ 32 ∷ 105 ∷ 52 ∷ 53 ∷ 32 ∷ 105 ∷ 51 ∷ 49
    ∷ 48 ∷ 10 ∷ []
unfolding words.computing computing flatten
group_example = refl

-- row i-3 i-536870912
signed_example : row_line (0x7FFFFFFD ∷ 0x60000000 ∷ [])
    ≡ 114 ∷ 111 ∷ 119 ∷ 32 ∷ 105 ∷ 45 ∷ 51 ∷ 32 ∷ 105 ∷ 45 ∷ 53 ∷ 51 ∷ 54 ∷ 56 ∷ 55 ∷ 48 ∷ 57 ∷ 49 ∷ 50 ∷ 10 ∷ []
unfolding words.computing computing flatten
signed_example = refl

-- group 2 2 -1 i-5 i4, of a record's words
shrunk_example : group_line (group_in 0 (2 ∷ 0 ∷ 2 ∷ 0 ∷ 0xFFFFFFFF ∷ 0xFFFFFFFF ∷ 0x7FFFFFFB ∷ 0x40000004 ∷ []))
    ≡ 103 ∷ 114 ∷ 111 ∷ 117 ∷ 112 ∷ 32 ∷ 50 ∷ 32 ∷ 50 ∷ 32 ∷ 45 ∷ 49 ∷ 32 ∷ 105 ∷ 45 ∷ 53 ∷ 32 ∷ 105 ∷ 52 ∷ 10 ∷ []
unfolding words.computing lists.computing computing flatten
shrunk_example = refl

-- group 0 0 0 - -
nothing_example : group_line of_nothing
    ≡ 103 ∷ 114 ∷ 111 ∷ 117 ∷ 112 ∷ 32 ∷ 48 ∷ 32 ∷ 48 ∷ 32 ∷ 48 ∷ 32 ∷ 45 ∷ 32 ∷ 45 ∷ 10 ∷ []
unfolding computing flatten
nothing_example = refl

-- turn 1 steps 4 spent
turn_example : turn_line 1 4 Spent
    ≡ 116 ∷ 117 ∷ 114 ∷ 110 ∷ 32 ∷ 49 ∷ 32 ∷ 115 ∷ 116 ∷ 101 ∷ 112 ∷ 115 ∷ 32 ∷ 52 ∷ 32 ∷ 115 ∷ 112 ∷ 101 ∷ 110 ∷
    116 ∷ 10 ∷ []
unfolding computing flatten
turn_example = refl

-- list 0 4294967295
list_example : list_line (0 ∷ 4294967295 ∷ [])
    ≡ 108 ∷ 105 ∷ 115 ∷ 116 ∷ 32 ∷ 48 ∷ 32 ∷ 52 ∷ 50 ∷ 57 ∷ 52 ∷ 57 ∷ 54 ∷ 55 ∷ 50 ∷ 57 ∷ 53 ∷ 10 ∷ []
unfolding computing flatten
list_example = refl
