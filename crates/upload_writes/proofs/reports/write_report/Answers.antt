-- `write_report` meets its contract. The invariant: the dropped rows before `row` are written.
use Rattle.std.proofs.Common.{◌≡◌, ℕ, ◌+◌, ◌≤◌, ◌<◌, not, List, [], ◌∷◌, ◌++◌, length, get_or, length-append, add-one, sym, ◌∙◌, ap, arith}
use borrow.Author.Tests.{eq-eqb, ne_eqb}
use lib.Seq.{paste}
use Rattle.sequences.specs.Sequences.{numbers, over}
use Rattle.sequences.proofs.Growing.{grow_whole, grow_count}
use Rattle.sequences.proofs.Numbers.{numbers_none, numbers_next}
use Rattle.upload_writes.specs.Writing.{written_for, is_kept_in, dropped_words}
use Rattle.upload_writes.proofs.Written.{written_none, written_yes, written_no, numbers_part}
use Rattle.upload_writes.proofs.reports.write_report.Goals as goal
use Rattle.upload_writes.proofs.reports.write_report.Goals.{then-fate-ne-KEPT, else-fate-ne-KEPT}

module _ (fates : List ℕ) where
  entry : ℕ → List ℕ
  entry row = row ∷ get_or fates row 0 ∷ []

  -- one row more
  next_words : (row : ℕ) → dropped_words fates (row + 1) ≡ written_for (λ r. not (is_kept_in fates r)) entry (numbers row ++ (row ∷ []))
  unfolding entry
  next_words row = ap (written_for (λ r. not (is_kept_in fates r)) entry) (ap numbers (add-one row) ∙ sym (numbers_next row))

  next_kept : (row : ℕ) → get_or fates row 0 ≡ 0 → dropped_words fates (row + 1) ≡ dropped_words fates row
  unfolding entry
  next_kept row e = next_words row ∙ written_no (λ r. not (is_kept_in fates r)) entry (numbers row) row (rw (eq-eqb _ _ e))

  next_dropped : (row : ℕ) → (get_or fates row 0 ≡ 0 → ⊥) → dropped_words fates (row + 1) ≡ dropped_words fates row ++ (row ∷ get_or fates row 0 ∷ [])
  unfolding entry
  next_dropped row e = next_words row ∙ written_yes (λ r. not (is_kept_in fates r)) entry (numbers row) row (rw (ne_eqb _ _ e))

  -- there is room for a row that is dropped
  room : (row count : ℕ) → row < count → (get_or fates row 0 ≡ 0 → ⊥) → length (dropped_words fates row) + 2 ≤ length (dropped_words fates count)
  unfolding entry
  room row count h e =
      let a = numbers_part (λ r. not (is_kept_in fates r)) entry (row + 1) count (omega arith) in
      let b = ap length (next_dropped row e) in
      let c = length-append (dropped_words fates row) (row ∷ get_or fates row 0 ∷ []) in
      omega arith

pub loop-row-init : goal.loop-row-init
loop-row-init c =
    let a = c.args in
    let n : [] ≡ dropped_words a.fates.now 0 =
    written_none (λ r. not (is_kept_in a.fates.now r)) (λ r. r ∷ get_or a.fates.now r 0 ∷ [])
    ∙ ap (written_for (λ r. not (is_kept_in a.fates.now r)) (λ r. r ∷ get_or a.fates.now r 0 ∷ [])) numbers_none in
    (ap length n, ap (λ ws. over ws a.report.now) n)

pub copy_in-requires : goal.copy_in-requires
copy_in-requires c =
    let r = room c.args.fates.now c.loop-row.row c.args.count (omega arith) c.if-fate-ne-KEPT.true in
    omega (arith, c.requires.count_in_bounds_2, c.loop-row.auto.report, c.loop-row.invariant.0)

pub loop-row-preserved : goal.loop-row-preserved
loop-row-preserved c =
    let fates = c.args.fates.now in
    let report = c.args.report.now in
    let l = c.loop-row in
    let i = l.invariant in
    elim c.if-fate-ne-KEPT.branch [
      | then-fate-ne-KEPT w ↦
          let e = next_dropped fates l.row w.if-fate-ne-KEPT.true in
          let m = room fates l.row c.args.count (omega arith) w.if-fate-ne-KEPT.true in
          let fits : l.used + 2 ≤ length report = omega (arith, c.requires.count_in_bounds_2, i.0) in
          let ws = dropped_words fates l.row in
          let x = l.row ∷ get_or fates l.row 0 ∷ [] in
          let put = w.copy_in.ensures ∙ ap (λ v. paste l.report l.used (l.row ∷ v ∷ []) 2) w.from.ensures in
          rw (w.report-is, w.used-is) (
            grow_count ws x report l.report w.copy_in.new.buf l.used i.0 i.1 fits put ∙ sym (ap length e),
            grow_whole ws x report l.report w.copy_in.new.buf l.used i.0 i.1 fits put ∙ sym (ap (λ ws. over ws report) e),
          )
      | else-fate-ne-KEPT w ↦
          let e = next_kept fates l.row w.if-fate-ne-KEPT.false in
          rw (w.report-is, w.used-is) (i.0 ∙ sym (ap length e), i.1 ∙ sym (ap (λ ws. over ws report) e))
    ]
