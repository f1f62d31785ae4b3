-- Calls that write tables, in counts of rows. Assumes nothing: these are definitions.
use Rattle.std.specs.Prelude.{ℕ, ◌*◌, ◌≤◌, ◌≡◌, Bool, ◌&&◌, leb, length}
use Rattle.sequences.specs.Buffers.{Overwritten}
use Rattle.tables.specs.Tables.{Tables, column_count}
use Rattle.table_answers.specs.Writing.{TableBuffers, TablesResult, table_words}

-- buffers of these lengths have room for n rows and for both lists of them
unfoldable pub tables_room_for : ℕ → ℕ → ℕ → ℕ → Bool
tables_room_for n rows pos osp = leb (n * column_count) rows && (leb n pos && leb n osp)

-- some tables have n rows
pub record TablesCount (t : Tables) (n : ℕ) : Type 0 where
  pub rows : length t.rows ≡ n * column_count
  pub pos : length t.pos ≡ n
  pub osp : length t.osp ≡ n

-- lengths that are no shorter than n rows and both lists of them
pub record RowsFit (n rows pos osp : ℕ) : Type 0 where
  pub for_rows : n * column_count ≤ rows
  pub for_pos : n ≤ pos
  pub for_osp : n ≤ osp

abbrev pub TablesFit : ℕ → TableBuffers → Type 0
TablesFit n b = RowsFit n (length b.rows) (length b.pos) (length b.osp)

-- tables of n rows are written over the first words of the buffers, and counted
pub record TablesOver (t : Tables) (n : ℕ) (before : TableBuffers) (r : TablesResult) : Type 0 where
  pub rows : Overwritten t.rows before.rows r.buffers.rows (n * column_count)
  pub pos : Overwritten t.pos before.pos r.buffers.pos n
  pub osp : Overwritten t.osp before.osp r.buffers.osp n
  pub words : table_words r.answer ≡ record { rows = n * column_count; pos = n; osp = n }
