-- Marks: for each row its number among those that pass a test, or that it is hidden. Assumes nothing: these are definitions.
use Rattle.std.specs.Prelude.{ℕ, Bool, cond, List, map}
use Rattle.sequences.specs.Sequences.{numbers}
use Rattle.tables.specs.Tables.{most_rows}
use Rattle.views.specs.Renumbered.{passed_before}

-- no row has this number
abbrev pub hidden_mark : ℕ
hidden_mark = most_rows

abbrev pub mark_by : Bool → ℕ → ℕ
mark_by seen number = cond seen number hidden_mark

abbrev pub mark_of : (ℕ → Bool) → ℕ → ℕ
mark_of seen row = mark_by (seen row) (passed_before seen row)

-- the marks of the first rows
unfoldable pub marks_of : (ℕ → Bool) → ℕ → List ℕ
marks_of seen n = map (mark_of seen) (numbers n)
