-- `make_within` meets its contract: the rows are judged and counted, the room is tested, and then all is written.
use Prim.Native.Nat.{ℕ, ◌-◌, ◌*◌, ◌≤◌}
use native.Mathlib.Omega.{arith}
use mathlib.Core.Path.{◌≡◌, sym, ◌∙◌, ap}
use mathlib.Core.Bool.{true}
use mathlib.Core.List.{List}
use lib.ListN.{length}
use lib.Seq.{length-take-le}
use borrow.Author.Tests.{not-true, not-false}
use Rattle.sequences.specs.Sequences.{over}
use Rattle.tables.specs.Tables.{column_count, most_rows}
use Rattle.uploads.specs.Uploads.{upload_count, kept_count, dropped_count}
use Rattle.uploads.specs.Making.{MakeInput, make_input}
use Rattle.uploads.proofs.Kept.{kept_most}
use Rattle.uploads.proofs.Lengths.{report_length}
use Rattle.uploads.proofs.Writes.{upload_few}
use Rattle.upload_fates.specs.Judging.{Judged}
use Rattle.upload_rooms.specs.Rooms.{make_room_for}
use Rattle.upload_writes.proofs.Tables.{kept_counted, report_words_lem}
use Rattle.upload_rooms.proofs.Rooms.{MakeRoomParts, room_parts}
use Rattle.upload_calls.proofs.Outcome.{dropped_is, no_room, served, same_result}
use Rattle.upload_calls.proofs.within.make_within.Goals as goal
use Rattle.upload_calls.proofs.within.make_within.Goals.{After-count_kept-kept, Else-not-has_room, Start}

abbrev upload : Start → List ℕ
upload s = s.args.upload.now

abbrev lent : Start → MakeInput
lent s = make_input (upload s) s.args.rows.now s.args.pos.now s.args.osp.now s.args.report.now

few : (s : Start) → upload_count (upload s) ≤ most_rows
few s = upload_few (upload s) s.requires.upload_value

abbrev Counted : Type 0
Counted = After-count_kept-kept

abbrev fates : Counted → List ℕ
fates k = k.judge-right.new.fates

fates_right : (k : Counted) → Judged ((k.args.upload.now)) (fates k)
fates_right k = k.judge-right.ensures.judged

kept_is : (k : Counted) → k.count_kept-kept.result ≡ kept_count ((k.args.upload.now))
kept_is k = k.count_kept-kept.ensures ∙ kept_counted ((k.args.upload.now)) (fates k) (fates_right k)

dropped : (k : Counted) → upload_count ((k.args.upload.now)) - k.count_kept-kept.result ≡ dropped_count ((k.args.upload.now))
dropped k = dropped_is ((k.args.upload.now)) k.count_kept-kept.result (kept_is k)

pub judge-right-requires : goal.judge-right-requires
judge-right-requires c = record {
  fits = record {
    few = few (goal.at.judge-right-requires c).Start;
    listed =
        omega (arith, few (goal.at.judge-right-requires c).Start, c.requires.list_len.0);
    judged =
        omega (arith, few (goal.at.judge-right-requires c).Start, c.requires.list_len.1);
  };
  list_in_bounds =
      omega (arith, c.requires.list_len.0, c.requires.list_len.2);
}

pub count_kept-kept-requires : goal.count_kept-kept-requires
count_kept-kept-requires c = (
  omega (arith, few (goal.at.count_kept-kept-requires c).Start, c.requires.list_len.1, c.judge-right.auto.spare),
  omega (arith, few (goal.at.count_kept-kept-requires c).Start),
)

pub overflow_sub-count : goal.overflow_sub-count
overflow_sub-count c = omega (arith, kept_is c, kept_most (upload (goal.at.overflow_sub-count c).Start))

pub has_room-requires : goal.has_room-requires
has_room-requires c =
    let m = kept_most (upload (goal.at.has_room-requires c).Start) in
    (omega (arith, kept_is c, m, few (goal.at.has_room-requires c).Start), omega (arith, kept_is c, m, few (goal.at.has_room-requires c).Start))

pub returns-then-not-has_room : goal.returns-then-not-has_room
returns-then-not-has_room c =
    no_room (lent (goal.at.returns-then-not-has_room c).Start) c.requires.upload_value c.count_kept-kept.result
    (upload_count (upload (goal.at.returns-then-not-has_room c).Start) - c.count_kept-kept.result)
    (kept_is (goal.at.returns-then-not-has_room c).After-count_kept-kept) (dropped (goal.at.returns-then-not-has_room c).After-count_kept-kept)
    (sym c.has_room.ensures ∙ not-true c.has_room.result c.if-not-has_room.true-raw)

-- ---- where there is room
has : (c : Else-not-has_room) → let a = c.args in
    make_room_for c.count_kept-kept.result (upload_count (c.args.upload.now) - c.count_kept-kept.result)
    (length a.rows.now) (length a.pos.now) (length a.osp.now) (length a.report.now) ≡ true
has c = sym c.has_room.ensures ∙ not-false c.has_room.result c.if-not-has_room.false-raw

fits : (c : Else-not-has_room) → let a = c.args in
    MakeRoomParts c.count_kept-kept.result (upload_count (c.args.upload.now) - c.count_kept-kept.result)
    (length a.rows.now) (length a.pos.now) (length a.osp.now) (length a.report.now)
fits c = room_parts _ _ _ _ _ _ (has c)

pub slice_bounds-write_tables-end-2 : goal.slice_bounds-write_tables-end-2
slice_bounds-write_tables-end-2 c =
    sym (length-take-le c.judge-right.result c.judge-right.new.list c.judge-right.ensures.listed.fits)

pub write_tables-end-requires : goal.write_tables-end-requires
write_tables-end-requires c = let f = fits (goal.at.write_tables-end-requires c).Else-not-has_room in record {
  ready_to_write = record {
    few = few (goal.at.write_tables-end-requires c).Start;
    listed = c.judge-right.ensures.listed.front;
    long = omega (arith, few (goal.at.write_tables-end-requires c).Start, c.requires.list_len.1, c.judge-right.auto.spare);
    judged = fates_right (goal.at.write_tables-end-requires c).After-count_kept-kept;
    counted = kept_is (goal.at.write_tables-end-requires c).After-count_kept-kept;
  };
  column_count_in_bounds = (f.for_rows, f.for_pos, f.for_osp);
  most_rows_in_bounds = omega (arith, c.requires.list_len.2, c.judge-right.auto.spare);
}

pub write_report-told-requires : goal.write_report-told-requires
write_report-told-requires c =
    record {
      count_in_bounds = (
        omega (arith, few (goal.at.write_report-told-requires c).Start, c.requires.list_len.1, c.judge-right.auto.spare),
        omega (arith, few (goal.at.write_report-told-requires c).Start),
      );
      count_in_bounds_2 =
          omega (
            arith,
            ap length (report_words_lem (upload (goal.at.write_report-told-requires c).Start)
                (fates (goal.at.write_report-told-requires c).After-count_kept-kept)
                (fates_right (goal.at.write_report-told-requires c).After-count_kept-kept)),
            report_length (upload (goal.at.write_report-told-requires c).Start),
            dropped (goal.at.write_report-told-requires c).After-count_kept-kept,
            (fits (goal.at.write_report-told-requires c).Else-not-has_room).for_report,
          );
    }

pub returns : goal.returns
returns c =
    let up = upload (goal.at.returns c).Start in
    let n = kept_is (goal.at.returns c).After-count_kept-kept in
    let report = report_words_lem up (fates (goal.at.returns c).After-count_kept-kept) (fates_right (goal.at.returns c).After-count_kept-kept) in
    same_result (lent (goal.at.returns c).Start) c.write_tables-end.result c.count_kept-kept.result c.write_report-told.result
    c.write_tables-end.new.rows c.write_tables-end.new.pos
    c.write_tables-end.new.osp c.write_report-told.new.report (c.write_tables-end.ensures.value ∙ ap (λ m. m * column_count) n) n
    (c.write_report-told.ensures.value ∙ ap length report)
    c.write_tables-end.ensures.rows_after c.write_tables-end.ensures.pos_after c.write_tables-end.ensures.osp_after
    (c.write_report-told.ensures.report_after ∙ ap (λ ws. over ws c.args.report.now) report)
    ∙ served (lent (goal.at.returns c).Start) c.requires.upload_value c.count_kept-kept.result (upload_count up - c.count_kept-kept.result) n
    (dropped (goal.at.returns c).After-count_kept-kept) (has (goal.at.returns c).Else-not-has_room)
