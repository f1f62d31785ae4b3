-- What accepted tables have: the records that the functions on them ask for. Assumes nothing: these are definitions.
use Rattle.std.specs.Prelude.{ℕ, suc, ◌*◌, ◌≤◌, ◌<◌, ◌≡◌, true, length}
use Rattle.sequences.specs.Sequences.{lex_before}
use Rattle.tables.specs.declared.Order.{Order}
use Rattle.tables.specs.Tables.{Tables, column_count, most_rows, row_count, field_of, row_at, fields_at, field_right, year_column, year_right}

-- what test 1 gives: the rows are whole and not too many, and each list has a number for each
pub record Sized (t : Tables) : Type 0 where
  pub whole : row_count t * column_count ≡ length t.rows
  pub few : row_count t ≤ most_rows
  pub pos_length : length t.pos ≡ row_count t
  pub osp_length : length t.osp ≡ row_count t

-- what the tests of the tables give
pub record Right (t : Tables) : Type 0 where
  pub sized : Sized t
  -- each field has a kind that its column may have
  pub kinds : (row column : ℕ) → row < row_count t → column < column_count → field_right column (field_of t.rows row column) ≡ true
  -- each row's year is one
  pub years : (row : ℕ) → row < row_count t → year_right (field_of t.rows row year_column) ≡ true
  -- each place of an order names a row, and its fields come before those of the next place
  pub named : (o : Order) (place : ℕ) → place < row_count t → row_at o t place < row_count t
  pub up : (o : Order) (place : ℕ) → suc place < row_count t → lex_before (fields_at o t place) (fields_at o t (suc place)) ≡ true
