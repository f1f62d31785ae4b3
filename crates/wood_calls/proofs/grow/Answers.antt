-- `grow` meets its contract.
use Prim.Native.Nat.{ℕ, ◌+◌, ◌*◌, ◌/◌, ◌≤◌}
use native.Mathlib.Omega.{arith}
use mathlib.Core.Path.{◌≡◌, sym, ◌∙◌, ap}
use mathlib.Core.Bool.{true}
use lib.ListN.{length, replicate, length-replicate}
use borrow.Author.Tests.{not-true, not-false}
use Rattle.calls.proofs.Refusals.{call_told}
use Rattle.tables.specs.Tables.{column_count, most_rows}
use Rattle.table_answers.specs.Counts.{tables_room_for}
use Rattle.table_answers.proofs.Rooms.{room_parts}
use Rattle.table_answers.proofs.Written.{same_result}
use Rattle.woods.specs.Growing.{GrowInput, grow_input, wood_in, asked_right, grow_schema}
use Rattle.woods.specs.Refusals.{rows_for}
use Rattle.woods.proofs.Refusals.{grow_is_right}
use Rattle.woods.proofs.Writes.{asked_few, asked_ended, grow_counts}
use Rattle.wood_calls.proofs.Outcome.{wrong_asked, no_room, served}
use Rattle.wood_calls.proofs.grow.Goals as goal
use Rattle.wood_calls.proofs.grow.Goals.{After-wide-count, Else-not-has_room, Start}

-- half of the most rows, twice
enough : (n : ℕ) → n ≡ most_rows / 2 → most_rows ≤ n + n
enough n e = omega arith

abbrev lent : Start → GrowInput
lent s = grow_input s.args.seed s.args.stems s.args.year s.args.rows.now s.args.pos.now s.args.osp.now

-- ---- past test 24
abbrev Asked : Type 0
Asked = After-wide-count

abbrev count : Asked → ℕ
count w = w.wide-count.result * 2

asked : (w : Asked) → asked_right w.args.stems w.args.year ≡ true
asked w = sym w.asked_right.ensures ∙ not-false w.asked_right.result w.if-not-asked_right.false-raw

counted : (w : Asked) → w.wide-count.result * 2 ≡ rows_for w.args.stems
counted w = omega (arith, w.wide-count.ensures)

few : (w : Asked) → w.wide-count.result * 2 ≤ most_rows
few w = omega (arith, counted w, asked_few w.args.stems w.args.year (asked w))

-- ---- past test 25
has : (e : Else-not-has_room) → let a = e.args in
    tables_room_for (e.wide-count.result * 2) (length a.rows.now) (length a.pos.now) (length a.osp.now) ≡ true
has e = sym e.has_room.ensures ∙ not-false e.has_room.result e.if-not-has_room.false-raw

pub returns-then-not-asked_right : goal.returns-then-not-asked_right
returns-then-not-asked_right c =
    let shown = call_told grow_schema grow_is_right (lent (goal.at.returns-then-not-asked_right c).Start)
    (wrong_asked (lent (goal.at.returns-then-not-asked_right c).Start)
    (sym c.asked_right.ensures ∙ not-true c.asked_right.result c.if-not-asked_right.true-raw)) in
    record { osp_after = shown.0; number = shown.1 }

pub overflow_mul-count : goal.overflow_mul-count
overflow_mul-count c = omega (arith, few c)

pub has_room-requires : goal.has_room-requires
has_room-requires c = few c

pub returns-then-not-has_room : goal.returns-then-not-has_room
returns-then-not-has_room c =
    let shown = call_told grow_schema grow_is_right (lent (goal.at.returns-then-not-has_room c).Start)
    (no_room (lent (goal.at.returns-then-not-has_room c).Start) (asked (goal.at.returns-then-not-has_room c).After-wide-count)
    (count (goal.at.returns-then-not-has_room c).After-wide-count) (counted (goal.at.returns-then-not-has_room c).After-wide-count)
    (sym c.has_room.ensures ∙ not-true c.has_room.result c.if-not-has_room.true-raw)) in
    record { osp_after = shown.0; number = shown.1 }

pub write_tables-end-requires : goal.write_tables-end-requires
write_tables-end-requires c = let a = c.args in
    let r = room_parts (count (goal.at.write_tables-end-requires c).After-wide-count) (length a.rows.now) (length a.pos.now) (length a.osp.now)
    (has (goal.at.write_tables-end-requires c).Else-not-has_room) in
    record {
      stems_le_most_stems = (
        asked_few a.stems a.year (asked (goal.at.write_tables-end-requires c).After-wide-count),
        asked_ended a.stems a.year (asked (goal.at.write_tables-end-requires c).After-wide-count),
        counted (goal.at.write_tables-end-requires c).After-wide-count,
      );
      column_count_in_bounds = (r.for_rows, r.for_pos, r.for_osp);
      most_rows_in_bounds = enough (length {A = ℕ} (replicate (most_rows / 2) 0)) (length-replicate {A = ℕ} (most_rows / 2) 0);
    }

pub returns : goal.returns
returns c =
    let shown = call_told grow_schema grow_is_right (lent (goal.at.returns c).Start)
    (same_result (wood_in (lent (goal.at.returns c).Start)) (lent (goal.at.returns c).Start).buffers (rows_for (lent (goal.at.returns c).Start).stems)
    (grow_counts (lent (goal.at.returns c).Start)) c.write_tables-end.result (count (goal.at.returns c).After-wide-count) _ _ _
    (c.write_tables-end.ensures.value ∙ ap (λ n. n * column_count) (counted (goal.at.returns c).After-wide-count))
    (counted (goal.at.returns c).After-wide-count) c.write_tables-end.ensures.rows_after c.write_tables-end.ensures.pos_after
    c.write_tables-end.ensures.osp_after
    ∙ served (lent (goal.at.returns c).Start) (asked (goal.at.returns c).After-wide-count) (count (goal.at.returns c).After-wide-count)
    (counted (goal.at.returns c).After-wide-count) (has (goal.at.returns c).Else-not-has_room)) in
    record { osp_after = shown.0; number = shown.1 }
