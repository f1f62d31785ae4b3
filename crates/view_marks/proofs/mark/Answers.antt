-- `mark` meets its contract. The invariant: the rows before `row` are marked, and `number` of them are visible.
use Prim.Native.Nat.{ℕ, ◌+◌, ◌-◌, ◌/◌}
use mathlib.Core.Path.{◌≡◌, refl, sym, ap, ◌∙◌}
use mathlib.Core.List.{List}
use mathlib.Core.Bool.{Bool}
use native.Mathlib.Omega.{arith}
use lib.ListN.{length}
use mathlib.Core.Path.{ap₂}
use lib.ListN.{set, length-set}
use Rattle.sequences.specs.Sequences.{over}
use Rattle.tables.specs.Tables.{column_count, year_column, subject_column, field_of}
use Rattle.views.specs.Renumbered.{passed_before}
use Rattle.views.proofs.Renumbering.{passed_none}
use Rattle.view_grants.proofs.Search.{first_later}
use Rattle.view_marks.specs.Marks.{mark_by, mark_of, marks_of}
use Rattle.view_marks.specs.Told.{seen_by}
use Rattle.view_marks.proofs.Subjects.{subjects_rise}
use Rattle.view_marks.proofs.Marking.{marks_none, marks_over, number_most, number_next}
use Rattle.view_marks.proofs.mark.Goals as goal
use Rattle.view_marks.proofs.mark.Goals.{At-loop-row}

abbrev Loop : Type 0
Loop = At-loop-row

abbrev rows : Loop → List ℕ
rows l = l.args.rows.now

abbrev grant : Loop → List ℕ
grant l = l.args.grant.now

abbrev visible_at : Loop → ℕ → Bool
visible_at l = seen_by (rows l) (grant l) l.args.flags.now

pub overflow_cast-count : goal.overflow_cast-count
overflow_cast-count c = let h = c.requires.rows_right.few in omega arith

pub loop-row-init : goal.loop-row-init
loop-row-init c =
    let a = c.args in
    let f = seen_by a.rows.now a.grant.now a.flags.now in (
      omega arith,
      sym (passed_none f),
      refl,
      ap (λ ws. over ws a.marks.now) (marks_none f),
      λ h k. absurd (omega arith),
      λ h. absurd (omega arith),
    )

pub next_seen-this-requires : goal.next_seen-this-requires
next_seen-this-requires c = record {
  rows_right = c.requires.rows_right;
  grant_value = c.requires.grant_value;
  row_in_bounds = (omega arith, c.requires.column_count_in_bounds.0);
  from_bound = c.loop-row.invariant.4 (omega arith);
  seen_value = c.loop-row.invariant.5;
}

pub one_more-number-requires : goal.one_more-number-requires
one_more-number-requires c =
    let p = c.requires.rows_right.few in
    omega (arith, number_most (visible_at (goal.at.one_more-number-requires c).At-loop-row) c.loop-row.row, c.loop-row.invariant.1)

pub loop-row-preserved : goal.loop-row-preserved
loop-row-preserved c =
    let row = c.loop-row.row in
    let mark : c.mark_by.result ≡ mark_of (visible_at (goal.at.loop-row-preserved c).At-loop-row) row = c.mark_by.ensures ∙
    ap₂ mark_by c.next_seen-this.ensures.0 c.loop-row.invariant.1 in
    let z : row ≡ row + 1 - 1 = omega arith in (
      omega arith,
      c.one_more-number.ensures ∙ rw (c.next_seen-this.ensures.0, c.loop-row.invariant.1)
          (number_next (visible_at (goal.at.loop-row-preserved c).At-loop-row) row),
      (simp length-set) ∙ c.loop-row.invariant.2,
      ap (λ n. set c.loop-row.marks n c.mark_by.result) c.wide.ensures
          ∙ marks_over (visible_at (goal.at.loop-row-preserved c).At-loop-row) row c.args.marks.now c.loop-row.marks c.mark_by.result
          (omega (arith, c.requires.column_count_in_bounds.1)) c.loop-row.invariant.3 mark,
      λ h k₁ y.
          let a = subjects_rise (rows (goal.at.loop-row-preserved c).At-loop-row) c.requires.rows_right row (row + 1) (omega arith) (omega arith)
          (ap (λ n. field_of (rows (goal.at.loop-row-preserved c).At-loop-row) n year_column) z ∙ y) in
          omega (
            arith,
            c.next_seen-this.ensures.1,
            first_later (grant (goal.at.loop-row-preserved c).At-loop-row)
                (field_of (rows (goal.at.loop-row-preserved c).At-loop-row) row subject_column)
                (field_of (rows (goal.at.loop-row-preserved c).At-loop-row) (row + 1) subject_column) a,
          ),
      λ h. c.next_seen-this.ensures.0 ∙ ap (visible_at (goal.at.loop-row-preserved c).At-loop-row) z,
    )

pub returns : goal.returns
returns c = let n : c.loop-row.row ≡ length (rows (goal.at.returns c).At-loop-row) / column_count = omega arith in
    record {
      value = c.wide-2.ensures ∙ c.loop-row.invariant.1 ∙ ap (passed_before (visible_at (goal.at.returns c).At-loop-row)) n;
      marks_after =
          c.loop-row.invariant.3 ∙ ap (λ k. over (marks_of (visible_at (goal.at.returns c).At-loop-row) k) c.args.marks.now) n;
    }
