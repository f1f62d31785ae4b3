-- The room for tables and a report, length by length.
use Prim.Native.Nat.{ℕ, ◌*◌, ◌≤◌}
use mathlib.Core.Path.{◌≡◌, refl}
use mathlib.Core.Bool.{Bool, true, false, ◌&&◌}
use lib.Dec.{leb}
use borrow.Author.Tests.{leb-true}
use Rattle.sequences.proofs.Booleans.{and_left, and_right}
use Rattle.tables.specs.Tables.{column_count}
use Rattle.table_answers.specs.Counts.{tables_room_for}
use Rattle.uploads.specs.Uploads.{entry_words}
use Rattle.upload_rooms.specs.Rooms.{make_room_for}

-- it is that for the tables, and that for the report
pub tables_and_report : (kept dropped rows pos osp report : ℕ)
    → (tables_room_for kept rows pos osp && leb (dropped * entry_words) report) ≡ make_room_for kept dropped rows pos osp report
unfolding tables_room_for make_room_for
tables_and_report kept dropped rows pos osp report = go (leb (kept * column_count) rows) (leb kept pos) (leb kept osp)
  where
    go : (a b c : Bool) → ((a && (b && c)) && leb (dropped * entry_words) report) ≡ (a && (b && (c && leb (dropped * entry_words) report)))
    go true true c = refl
    go true false c = refl
    go false b c = refl

-- what there is room for
pub record MakeRoomParts (kept dropped rows pos osp report : ℕ) : Type 0 where
  pub for_rows : kept * column_count ≤ rows
  pub for_pos : kept ≤ pos
  pub for_osp : kept ≤ osp
  pub for_report : dropped * entry_words ≤ report

pub room_parts : (kept dropped rows pos osp report : ℕ) → make_room_for kept dropped rows pos osp report ≡ true
    → MakeRoomParts kept dropped rows pos osp report
unfolding make_room_for
room_parts kept dropped rows pos osp report e =
    let a = and_right (leb (kept * column_count) rows) _ e in
    let b = and_right (leb kept pos) _ a in
    record {
      for_rows = leb-true _ _ (and_left (leb (kept * column_count) rows) _ e);
      for_pos = leb-true _ _ (and_left (leb kept pos) _ a);
      for_osp = leb-true _ _ (and_left (leb kept osp) _ b);
      for_report = leb-true _ _ (and_right (leb kept osp) _ b);
    }
