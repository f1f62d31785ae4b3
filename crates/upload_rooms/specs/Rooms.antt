-- The room that making tables asks for. Assumes nothing: this is a definition.
use Rattle.std.specs.Prelude.{ℕ, ◌*◌, Bool, ◌&&◌, leb}
use Rattle.tables.specs.Tables.{column_count}
use Rattle.uploads.specs.Uploads.{entry_words}

-- test 16, in counts of rows and lengths of buffers
unfoldable pub make_room_for : ℕ → ℕ → ℕ → ℕ → ℕ → ℕ → Bool
make_room_for kept dropped rows pos osp report =
    leb (kept * column_count) rows && (leb kept pos && (leb kept osp && leb (dropped * entry_words) report))
