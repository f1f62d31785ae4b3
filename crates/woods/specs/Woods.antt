-- A wood made from a seed: stems, each with a stand and a diameter, in one year. Assumes nothing: these are definitions.
use Rattle.std.specs.Prelude.{ℕ, zero, suc, ◌+◌, ◌*◌, ◌/◌, ◌%◌}
use mathlib.Core.List.{List, [], ◌∷◌, ◌++◌, flatten}
use Rattle.words.specs.Words.{name, number}
use Rattle.sequences.specs.Sequences.{iterate}
use Rattle.tables.specs.Tables.{Tables}
use Rattle.tables.specs.RowLists.{tables_from}

-- ---- draws
-- a draw moves x on
abbrev pub next_draw : ℕ → ℕ
next_draw x = (1664525 * x + 1013904223) % 4294967296

-- and is used as x div 65,536: the value of draw number k of a seed, from 1
abbrev pub draw_of : ℕ → ℕ → ℕ
draw_of seed k = iterate next_draw k seed / 65536

-- ---- stems
-- stem j, from 0
abbrev pub stem_name : ℕ → ℕ
stem_name j = name (1000000 + j)

-- its first draw gives the stand
abbrev pub stand_of : ℕ → ℕ → ℕ
stand_of seed j = name (100 + draw_of seed (2 * j + 1) % 20)

-- its second draw gives the diameter
abbrev pub diameter_of : ℕ → ℕ → ℕ
diameter_of seed j = number (20 + draw_of seed (2 * j + 2) % 600)

-- the predicates of the two
abbrev pub in_stand : ℕ
in_stand = name 10

abbrev pub has_diameter : ℕ
has_diameter = name 12

abbrev pub stand_row : ℕ → ℕ → ℕ → List ℕ
stand_row seed year j = number year ∷ stem_name j ∷ in_stand ∷ stand_of seed j ∷ []

abbrev pub diameter_row : ℕ → ℕ → ℕ → List ℕ
diameter_row seed year j = number year ∷ stem_name j ∷ has_diameter ∷ diameter_of seed j ∷ []

-- ---- the wood
-- the rows of the stems below a number, in one year
unfoldable pub wood_rows : ℕ → ℕ → ℕ → List (List ℕ)
wood_rows seed year zero = []
wood_rows seed year (suc j) = wood_rows seed year j ++ (stand_row seed year j ∷ diameter_row seed year j ∷ [])

-- the wood of `seed`, with `stems` stems in `year`
abbrev pub wood_of : ℕ → ℕ → ℕ → Tables
wood_of seed stems year = tables_from (flatten (wood_rows seed year stems))
