-- `write_rows` meets its contract. The invariant: the rows before `row` that are not hidden are written.
use Prim.Native.Nat.{ℕ, ◌+◌, ◌*◌, ◌/◌, ◌≤◌, ◌<◌}
use mathlib.Core.Path.{◌≡◌, refl, sym, ap, ◌∙◌, subst}
use mathlib.Core.List.{List, ◌++◌}
use native.Mathlib.Omega.{arith}
use lib.ListN.{length, get_or, take, drop}
use mathlib.Core.Path.{ap₂}
use mathlib.Core.Bool.{cond}
use lib.Dec.{ltb}
use lib.ListN.{take-append-drop}
use lib.Seq.{length-paste}
use Rattle.sequences.proofs.Numbers.{numbers_none}
use Rattle.sequences.proofs.Orders.{less, same, more, three}
use Rattle.tables.specs.declared.Order.TheVariants.{Spo}
use Rattle.tables.specs.Tables.{column_count, most_rows, fields_of}
use Rattle.tables.proofs.Columns.{fields_length}
use Rattle.views.specs.Renumbered.{passed_before}
use Rattle.views.proofs.Renumbering.{passed_none}
use Rattle.upload_writes.specs.Writing.{written_for}
use Rattle.upload_writes.proofs.Written.{written_none}
use Rattle.view_marks.specs.Marks.{hidden_mark}
use Rattle.view_marks.proofs.Marking.{number_most, number_next}
use Rattle.view_calls.specs.Writing.{shown_by, shown_words}
use Rattle.view_calls.proofs.Rows.{words_length, words_all, front_row, put_rest, more_most}
use Rattle.view_calls.proofs.writing.write_rows.Goals as goal
use Rattle.view_calls.proofs.writing.write_rows.Goals.{At-loop-used}

abbrev Loop : Type 0
Loop = At-loop-used

abbrev rows : Loop → List ℕ
rows l = l.args.rows.now

abbrev marks : Loop → List ℕ
marks l = l.args.marks.now

-- a row is left
left : (l : Loop) → l.loop-used.used < l.args.seen → l.loop-used.row < length (rows l) / column_count
left l h =
    elim (three l.loop-used.row (length (rows l) / column_count)) [
      | less k ↦ k
      | same k ↦ absurd (omega (arith, ap (passed_before (shown_by (marks l))) k, l.loop-used.invariant.2, l.requires.seen_value.0))
      | more k ↦ absurd (omega (arith, l.loop-used.invariant.0))
    ]

few : (l : Loop) → l.args.seen ≤ most_rows
few l = omega (arith, number_most (shown_by (marks l)) (length (rows l) / column_count), l.requires.seen_value.0, l.requires.column_count_len_bound.0)

-- there is room for a row more
room : (l : Loop) → l.loop-used.used < l.args.seen → l.loop-used.used * column_count + column_count ≤ length l.loop-used.view
room l h = omega (arith, l.requires.seen_value.1, l.loop-used.invariant.1)

pub loop-used-init : goal.loop-used-init
loop-used-init c =
    let a = c.args in
    let f = shown_by a.marks.now in (
      omega arith,
      refl,
      sym (passed_none f),
      omega arith,
      written_none f (fields_of Spo a.rows.now) ∙ ap (written_for f (fields_of Spo a.rows.now)) numbers_none,
      refl,
    )

pub offset_bounds-marks-wide : goal.offset_bounds-marks-wide
offset_bounds-marks-wide c =
    omega (
      arith,
      c.wide.ensures,
      left (goal.at.offset_bounds-marks-wide c).At-loop-used (omega arith),
      c.requires.column_count_len_bound.0,
      c.requires.column_count_len_bound.1,
    )

pub bounds-marks-wide : goal.bounds-marks-wide
bounds-marks-wide c =
    omega (arith, c.wide.ensures, left (goal.at.bounds-marks-wide c).At-loop-used (omega arith), c.requires.column_count_len_bound.1)

pub row_words-words-requires : goal.row_words-words-requires
row_words-words-requires c = let h = left (goal.at.row_words-words-requires c).At-loop-used (omega arith) in omega arith

pub overflow_mul-used : goal.overflow_mul-used
overflow_mul-used c = omega (arith, few (goal.at.overflow_mul-used c).At-loop-used)

pub put_row-requires : goal.put_row-requires
put_row-requires c =
    omega (
      arith,
      room (goal.at.put_row-requires c).At-loop-used (omega arith),
      ap length c.row_words-words.ensures,
      fields_length Spo (rows (goal.at.put_row-requires c).At-loop-used) c.loop-used.row,
    )

pub one_more-used-requires : goal.one_more-used-requires
one_more-used-requires c = omega (arith, few (goal.at.one_more-used-requires c).At-loop-used)

pub overflow_add-row : goal.overflow_add-row
overflow_add-row c = omega (arith, left (goal.at.overflow_add-row c).At-loop-used (omega arith), c.requires.column_count_len_bound.0)

pub loop-used-smaller : goal.loop-used-smaller
loop-used-smaller c = omega (arith, left (goal.at.loop-used-smaller c).At-loop-used (omega arith))

pub loop-used-preserved : goal.loop-used-preserved
loop-used-preserved c =
    let used = c.loop-used.used in
    let row = c.loop-used.row in
    let seen = c.args.seen in
    let x = c.row_words-words.result in
    let wide : length x ≡ column_count = ap length c.row_words-words.ensures ∙ fields_length Spo (rows (goal.at.loop-used-preserved c).At-loop-used) row in
    let h = left (goal.at.loop-used-preserved c).At-loop-used (omega arith) in
    let r = room (goal.at.loop-used-preserved c).At-loop-used (omega arith) in
    let fits : used * column_count + length x ≤ length c.loop-used.view = omega (arith, wide, r) in
    let u : c.one_more-used.result ≡ cond (shown_by (marks (goal.at.loop-used-preserved c).At-loop-used) row) (used + 1) used =
    c.one_more-used.ensures ∙ ap (λ n. cond (ltb (get_or (marks (goal.at.loop-used-preserved c).At-loop-used) n 0) hidden_mark) (used + 1) used)
    c.wide.ensures in (
      omega (arith, h),
      ap length c.put_row.ensures ∙ length-paste c.loop-used.view (used * column_count) x (length x) fits (omega arith) ∙ c.loop-used.invariant.1,
      u ∙ ap (λ k. cond (shown_by (marks (goal.at.loop-used-preserved c).At-loop-used) row) (k + 1) k) c.loop-used.invariant.2 ∙
          number_next (shown_by (marks (goal.at.loop-used-preserved c).At-loop-used)) row,
      subst (λ k. k ≤ seen) (sym u) (more_most (shown_by (marks (goal.at.loop-used-preserved c).At-loop-used) row) used seen (omega arith)),
      ap₂ (λ k v. take (k * column_count) v) u c.put_row.ensures
          ∙ front_row (rows (goal.at.loop-used-preserved c).At-loop-used)
          (marks (goal.at.loop-used-preserved c).At-loop-used) c.loop-used.view x used row c.row_words-words.ensures r c.loop-used.invariant.4,
      ap (drop (seen * column_count)) c.put_row.ensures
          ∙ put_rest c.loop-used.view x (used * column_count) fits (seen * column_count) (omega (arith, wide))
          ∙ c.loop-used.invariant.5,
    )

pub returns : goal.returns
returns c =
    let n : c.args.seen ≡ c.loop-used.used = omega (arith, c.loop-used.invariant.3) in
    let e = words_all (rows (goal.at.returns c).At-loop-used) (marks (goal.at.returns c).At-loop-used) c.loop-used.row c.loop-used.invariant.0
    (sym c.loop-used.invariant.2 ∙ sym n ∙ c.requires.seen_value.0) in
    let d : c.args.seen * column_count ≡ length (shown_words (rows (goal.at.returns c).At-loop-used) (marks (goal.at.returns c).At-loop-used)) =
    ap (λ k. k * column_count) c.requires.seen_value.0 ∙
    sym (words_length (rows (goal.at.returns c).At-loop-used) (marks (goal.at.returns c).At-loop-used)
    (length (rows (goal.at.returns c).At-loop-used) / column_count)) in
    sym (take-append-drop (c.args.seen * column_count) c.loop-used.view)
    ∙ ap₂ ◌++◌ (ap (λ k. take (k * column_count) c.loop-used.view) n ∙ c.loop-used.invariant.4 ∙ e)
    (c.loop-used.invariant.5 ∙ ap (λ k. drop k c.args.view.now) d)
