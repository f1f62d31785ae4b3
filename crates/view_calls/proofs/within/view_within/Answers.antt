-- `view_within` meets its contract: the rows are marked and counted, the room is tested, and then all is written.
use Prim.Native.Nat.{ℕ, ◌*◌, ◌≤◌}
use mathlib.Core.Path.{◌≡◌, sym, ap, ◌∙◌}
use mathlib.Core.List.{List}
use mathlib.Core.Bool.{true}
use native.Mathlib.Omega.{arith}
use lib.ListN.{length}
use borrow.Author.Tests.{not-true, not-false}
use Rattle.sequences.specs.Sequences.{over}
use Rattle.tables.specs.Tables.{Tables, tables_of, column_count, row_count, most_rows}
use Rattle.tables.proofs.RightTables.{accepted}
use Rattle.table_answers.specs.Counts.{tables_room_for, RowsFit}
use Rattle.table_answers.proofs.Rooms.{room_parts}
use Rattle.table_answers.proofs.Written.{same_result}
use Rattle.views.specs.Viewing.{ViewInput, view_input, view_in}
use Rattle.views.proofs.Lengths.{view_most}
use Rattle.views.proofs.Writes.{view_counts}
use Rattle.views.specs.Views.{visible}
use Rattle.views.specs.Refusals.{seen_in}
use Rattle.view_marks.specs.Marks.{marks_of}
use Rattle.view_marks.proofs.Visible.{number_visible, marks_visible}
use Rattle.view_grants.proofs.Grants.{right_ascends}
use Rattle.views.specs.Renumbered.{passed_before}
use Rattle.view_calls.specs.Writing.{shown_by, shown_words, shown_numbers}
use Rattle.view_calls.proofs.Outcome.{no_room, served}
use Rattle.view_calls.proofs.Shown.{rows_right, pos_named, osp_named, shown_count, shown_rows, shown_pos, shown_osp}
use Rattle.view_calls.proofs.within.view_within.Goals as goal
use Rattle.view_calls.proofs.within.view_within.Goals.{After-mark-seen, Else-not-has_room, Start}

abbrev Marks : Type 0
Marks = After-mark-seen

abbrev tables : Start → Tables
tables s = tables_of s.args.rows.now s.args.pos.now s.args.osp.now

abbrev lent : Start → ViewInput
lent s =
    view_input s.args.rows.now s.args.pos.now s.args.osp.now s.args.grant.now s.args.membership
    s.args.view_rows.now s.args.view_pos.now s.args.view_osp.now

abbrev marks : Marks → List ℕ
marks m = m.mark-seen.new.marks

abbrev flags : Marks → List ℕ
flags m = m.flag_members.new.flags

-- as many are counted as are visible
counted : (m : Marks) → m.mark-seen.result ≡ seen_in
    ((view_input m.args.rows.now m.args.pos.now m.args.osp.now m.args.grant.now m.args.membership m.args.view_rows.now m.args.view_pos.now m.args.view_osp.now))
counted m =
    m.mark-seen.ensures.value
    ∙ number_visible m.args.rows.now m.args.grant.now m.args.membership (flags m) m.flag_members.ensures
    (row_count ((tables_of m.args.rows.now m.args.pos.now m.args.osp.now)))

are_marked : (m : Marks) →
    marks m ≡ over (marks_of (visible m.args.rows.now m.args.grant.now m.args.membership)
    (row_count ((tables_of m.args.rows.now m.args.pos.now m.args.osp.now)))) m.args.marks.now
are_marked m =
    m.mark-seen.ensures.marks_after
    ∙ ap (λ ws. over ws m.args.marks.now)
    (marks_visible m.args.rows.now m.args.grant.now m.args.membership (flags m) m.flag_members.ensures
    (row_count ((tables_of m.args.rows.now m.args.pos.now m.args.osp.now))))

seen_few : (m : Marks) → m.mark-seen.result ≤ most_rows
seen_few m =
    let n = view_most m.args.rows.now m.args.grant.now m.args.membership in
    omega (arith, counted m, m.requires.right.sized.few)

-- what the marks show
rows_are : (m : Marks) → shown_words m.args.rows.now (marks m) ≡
    (view_in ((view_input m.args.rows.now m.args.pos.now m.args.osp.now m.args.grant.now m.args.membership m.args.view_rows.now m.args.view_pos.now
    m.args.view_osp.now))).rows
rows_are m =
    shown_rows ((tables_of m.args.rows.now m.args.pos.now m.args.osp.now)) m.requires.right m.args.grant.now m.args.membership m.args.marks.now
    (marks m) (are_marked m)

pos_are : (m : Marks) → shown_numbers (marks m) m.args.pos.now ≡
    (view_in ((view_input m.args.rows.now m.args.pos.now m.args.osp.now m.args.grant.now m.args.membership m.args.view_rows.now m.args.view_pos.now
    m.args.view_osp.now))).pos
pos_are m =
    shown_pos ((tables_of m.args.rows.now m.args.pos.now m.args.osp.now)) m.requires.right m.args.grant.now m.args.membership m.args.marks.now
    (marks m) (are_marked m)

osp_are : (m : Marks) → shown_numbers (marks m) m.args.osp.now ≡
    (view_in ((view_input m.args.rows.now m.args.pos.now m.args.osp.now m.args.grant.now m.args.membership m.args.view_rows.now m.args.view_pos.now
    m.args.view_osp.now))).osp
osp_are m =
    shown_osp ((tables_of m.args.rows.now m.args.pos.now m.args.osp.now)) m.requires.right m.args.grant.now m.args.membership m.args.marks.now
    (marks m) (are_marked m)

-- as many are shown as are counted
shown_is : (m : Marks) → m.mark-seen.result ≡ passed_before (shown_by (marks m)) (row_count ((tables_of m.args.rows.now m.args.pos.now m.args.osp.now)))
shown_is m =
    counted m
    ∙ sym (shown_count ((tables_of m.args.rows.now m.args.pos.now m.args.osp.now)) m.requires.right m.args.grant.now m.args.membership
    m.args.marks.now (marks m) (are_marked m))

-- there is a mark for each row
marks_there : (m : Marks) → row_count ((tables_of m.args.rows.now m.args.pos.now m.args.osp.now)) ≤ length (marks m)
marks_there m = omega (arith, m.requires.right.sized.few, m.requires.marks_len, m.mark-seen.auto)

has : (e : Else-not-has_room) → let a = e.args in
    tables_room_for e.mark-seen.result (length a.view_rows.now) (length a.view_pos.now) (length a.view_osp.now) ≡ true
has e = sym e.has_room.ensures ∙ not-false e.has_room.result e.if-not-has_room.false-raw

fits : (e : Else-not-has_room) → let a = e.args in
    RowsFit e.mark-seen.result (length a.view_rows.now) (length a.view_pos.now) (length a.view_osp.now)
fits e = room_parts _ _ _ _ (has e)

pub flag_members-requires : goal.flag_members-requires
flag_members-requires c = record
    { right = c.requires.right; grant_value = right_ascends c.args.grant.now c.requires.grant_value; unflagged = c.requires.unflagged }

pub mark-seen-requires : goal.mark-seen-requires
mark-seen-requires c = record {
  rows_right = rows_right (tables (goal.at.mark-seen-requires c).Start) c.requires.right;
  grant_value =
      right_ascends c.args.grant.now c.requires.grant_value;
  column_count_in_bounds =
      (c.flag_members.ensures.long, omega (arith, c.requires.right.sized.few, c.requires.marks_len));
}

pub has_room-requires : goal.has_room-requires
has_room-requires c = seen_few (goal.at.has_room-requires c).After-mark-seen

pub returns-then-not-has_room : goal.returns-then-not-has_room
returns-then-not-has_room c =
    no_room (lent (goal.at.returns-then-not-has_room c).Start)
    (accepted (tables (goal.at.returns-then-not-has_room c).Start) c.requires.right) c.requires.grant_value c.mark-seen.result
    (counted (goal.at.returns-then-not-has_room c).After-mark-seen)
    (sym c.has_room.ensures ∙ not-true c.has_room.result c.if-not-has_room.true-raw)

pub write_rows-requires : goal.write_rows-requires
write_rows-requires c = record {
  column_count_len_bound = (c.requires.right.sized.few, marks_there (goal.at.write_rows-requires c).After-mark-seen);
  seen_value =
      (shown_is (goal.at.write_rows-requires c).After-mark-seen, (fits (goal.at.write_rows-requires c).Else-not-has_room).for_rows);
}

pub write_numbers-requires : goal.write_numbers-requires
write_numbers-requires c = record {
  list_value = pos_named (tables (goal.at.write_numbers-requires c).Start) c.requires.right
      (length (marks (goal.at.write_numbers-requires c).After-mark-seen)) (marks_there (goal.at.write_numbers-requires c).After-mark-seen);
  seen_value = (
    counted (goal.at.write_numbers-requires c).After-mark-seen ∙
        sym (ap length (pos_are (goal.at.write_numbers-requires c).After-mark-seen) ∙ (view_counts (lent (goal.at.write_numbers-requires c).Start)).pos),
    (fits (goal.at.write_numbers-requires c).Else-not-has_room).for_pos,
    seen_few (goal.at.write_numbers-requires c).After-mark-seen,
  );
}

pub write_numbers-requires-2 : goal.write_numbers-requires-2
write_numbers-requires-2 c = record {
  list_value = osp_named (tables (goal.at.write_numbers-requires-2 c).Start) c.requires.right
      (length (marks (goal.at.write_numbers-requires-2 c).After-mark-seen)) (marks_there (goal.at.write_numbers-requires-2 c).After-mark-seen);
  seen_value = (
    counted (goal.at.write_numbers-requires-2 c).After-mark-seen ∙
        sym (ap length (osp_are (goal.at.write_numbers-requires-2 c).After-mark-seen) ∙
        (view_counts (lent (goal.at.write_numbers-requires-2 c).Start)).osp),
    (fits (goal.at.write_numbers-requires-2 c).Else-not-has_room).for_osp,
    seen_few (goal.at.write_numbers-requires-2 c).After-mark-seen,
  );
}

pub overflow_mul-result : goal.overflow_mul-result
overflow_mul-result c =
    omega (arith, seen_few (goal.at.overflow_mul-result c).After-mark-seen)

pub returns : goal.returns
returns c =
    same_result (view_in (lent (goal.at.returns c).Start)) (lent (goal.at.returns c).Start).buffers (seen_in (lent (goal.at.returns c).Start))
    (view_counts (lent (goal.at.returns c).Start)) _ _
    c.write_rows.new.view c.write_numbers.new.view c.write_numbers-2.new.view
    (ap (λ n. n * column_count) (counted (goal.at.returns c).After-mark-seen)) (counted (goal.at.returns c).After-mark-seen)
    (c.write_rows.ensures ∙ ap (λ ws. over ws c.args.view_rows.now) (rows_are (goal.at.returns c).After-mark-seen))
    (c.write_numbers.ensures ∙ ap (λ ws. over ws c.args.view_pos.now) (pos_are (goal.at.returns c).After-mark-seen))
    (c.write_numbers-2.ensures ∙ ap (λ ws. over ws c.args.view_osp.now) (osp_are (goal.at.returns c).After-mark-seen))
    ∙ served (lent (goal.at.returns c).Start) (accepted (tables (goal.at.returns c).Start) c.requires.right) c.requires.grant_value c.mark-seen.result
    (counted (goal.at.returns c).After-mark-seen) (has (goal.at.returns c).Else-not-has_room)
