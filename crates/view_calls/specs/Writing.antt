-- What is written of marked rows. Assumes nothing: these are definitions.
use Rattle.std.specs.Prelude.{ℕ, ◌/◌, Bool, List, [], ◌∷◌, ltb, length, get_or}
use Rattle.sequences.specs.Sequences.{numbers}
use Rattle.tables.specs.declared.Order.TheVariants.{Spo}
use Rattle.tables.specs.Tables.{column_count, fields_of}
use Rattle.upload_writes.specs.Writing.{written_for}
use Rattle.view_marks.specs.Marks.{hidden_mark}

-- a row is not marked as hidden
abbrev pub shown_by : List ℕ → ℕ → Bool
shown_by marks row = ltb (get_or marks row 0) hidden_mark

-- the words of such rows; the numbers of those in a list, by their marks
abbrev pub shown_words : List ℕ → List ℕ → List ℕ
shown_words rows marks = written_for (shown_by marks) (fields_of Spo rows) (numbers (length rows / column_count))

abbrev pub shown_numbers : List ℕ → List ℕ → List ℕ
shown_numbers marks list = written_for (shown_by marks) (λ row. get_or marks row 0 ∷ []) list
