-- The room for tables, length by length and in counts of rows.
use Prim.Native.Nat.{ℕ, ◌*◌}
use mathlib.Core.Path.{◌≡◌, sym, ◌∙◌}
use mathlib.Core.Logic.{◌↔◌}
use mathlib.Core.Bool.{true}
use lib.Dec.{leb}
use lib.ListN.{length}
use borrow.Author.Tests.{le-leb, leb-true}
use Rattle.sequences.proofs.Booleans.{and_left, and_right}
use Rattle.tables.specs.Tables.{Tables, column_count}
use Rattle.table_answers.specs.Writing.{TableBuffers, tables_room}
use Rattle.table_answers.specs.Counts.{tables_room_for, TablesCount, RowsFit, TablesFit}

module _ (n rows pos osp : ℕ) where
  -- what there is room for
  pub room_parts : tables_room_for n rows pos osp ≡ true → RowsFit n rows pos osp
  unfolding tables_room_for
  room_parts e =
      let a = and_right (leb (n * column_count) rows) _ e in
      record {
        for_rows = leb-true _ _ (and_left (leb (n * column_count) rows) _ e);
        for_pos = leb-true _ _ (and_left (leb n pos) _ a);
        for_osp = leb-true _ _ (and_right (leb n pos) _ a);
      }

  parts_room : RowsFit n rows pos osp → tables_room_for n rows pos osp ≡ true
  unfolding tables_room_for
  parts_room f = rw (le-leb (n * column_count) rows f.for_rows, le-leb n pos f.for_pos, le-leb n osp f.for_osp)

-- the room for some tables is that for the number of their rows
module _ (t : Tables) (b : TableBuffers) (n : ℕ) (c : TablesCount t n) where
  pub room_counted : tables_room_for n (length b.rows) (length b.pos) (length b.osp) ≡ tables_room t b
  unfolding tables_room_for tables_room
  room_counted = rw (c.rows, c.pos, c.osp)

  pub room_fits : (tables_room t b ≡ true) ↔ TablesFit n b
  room_fits = (λ e. room_parts n _ _ _ (room_counted ∙ e), λ f. sym room_counted ∙ parts_room n _ _ _ f)
