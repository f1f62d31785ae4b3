-- When making tables is served, in counts of rows, and what it then writes. Assumes nothing: these are definitions.
use Rattle.std.specs.Prelude.{◌*◌, ◌%◌, ◌≤◌, ◌≡◌, length}
use Rattle.sequences.specs.Buffers.{Overwritten}
use Rattle.tables.specs.Tables.{column_count, most_rows}
use Rattle.uploads.specs.Uploads.{upload_count, kept_count, dropped_count, entry_words, made_tables, dropped_report}
use Rattle.uploads.specs.Making.{MakeInput, make_of, made_words}

-- whole rows, not too many, and buffers that are no shorter than what is written: so their exact lengths are enough
pub record MakeSuffices (i : MakeInput) : Type 0 where
  pub whole : length i.upload % column_count ≡ 0
  pub few : upload_count i.upload ≤ most_rows
  pub rows : kept_count i.upload * column_count ≤ length i.buffers.rows
  pub pos : kept_count i.upload ≤ length i.buffers.pos
  pub osp : kept_count i.upload ≤ length i.buffers.osp
  pub report : dropped_count i.upload * entry_words ≤ length i.buffers.report

-- a served call writes the tables and the report over the first words of the buffers, and counts them
pub record MakeWrites (i : MakeInput) : Type 0 where
  pub rows : Overwritten (made_tables i.upload).rows i.buffers.rows (make_of i).buffers.rows (kept_count i.upload * column_count)
  pub pos : Overwritten (made_tables i.upload).pos i.buffers.pos (make_of i).buffers.pos (kept_count i.upload)
  pub osp : Overwritten (made_tables i.upload).osp i.buffers.osp (make_of i).buffers.osp (kept_count i.upload)
  pub report : Overwritten (dropped_report i.upload) i.buffers.report (make_of i).buffers.report (dropped_count i.upload * entry_words)
  pub words : made_words (make_of i).answer
      ≡ record {
        rows = kept_count i.upload * column_count;
        pos = kept_count i.upload;
        osp = kept_count i.upload;
        report = dropped_count i.upload * entry_words;
      }
