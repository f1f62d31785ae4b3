-- What a word of the table says. Assumes nothing: these are definitions.
use Rattle.std.specs.Prelude.{ℕ, ◌+◌, ◌≤◌, ◌%◌, ◌/◌, cond, List, length, eqb, take, drop}
use Rattle.syntax.specs.Cells.{Cell, refuse, pass, shift}
use Rattle.syntax_cells.specs.TableWords.{grammar_words}
use Rattle.syntax_cells.specs.declared.Placing.{Placing}
use Rattle.syntax_cells.specs.declared.CellAction.{CellAction}
use Rattle.syntax_cells.specs.declared.CellAction.TheVariants.{Refuse, Pass, Shift}

-- the symbols that are put in place
unfoldable pub placed_symbols : Placing → List ℕ
placed_symbols p = take p.size (drop p.start grammar_words)

-- what a symbol does, and the number of its cell in the table
abbrev pub cell_by : CellAction → Cell
cell_by (Refuse n) = refuse n
cell_by Pass = pass
cell_by (Shift p) = shift p.writes (placed_symbols p)

abbrev pub action_of : ℕ → CellAction
action_of c =
    cond (eqb (c % 4) 0) (Refuse (c / 64))
    (cond (eqb (c % 4) 1) Pass (Shift (record { writes = eqb (c % 4) 3; start = c / 64; size = c / 4 % 16 })))

-- it puts 8 symbols in place at most, all of the table
abbrev pub PlacesFew : CellAction → Type 0
PlacesFew (Refuse n) = Unit {0}
PlacesFew Pass = Unit {0}
PlacesFew (Shift p) = (p.start + p.size ≤ length grammar_words) × (p.size ≤ 8)
