-- `mark_repeats` meets its contract. The invariant: the places before `place` are marked.
use Rattle.std.proofs.Common.{ℕ, ◌+◌, ◌-◌, ◌*◌, ◌≤◌, ◌<◌, List, length, get_or, sym, ◌∙◌, arith}
use borrow.Author.Tests.{leb-true}
use Rattle.sequences.proofs.Elements.{all_at_lem}
use Rattle.tables.specs.Tables.{column_count}
use Rattle.tables.specs.RowLists.{in_rows}
use Rattle.upload_fates.proofs.Marking.{marked_one, marked_end, marked_yes, marked_no}
use Rattle.upload_fates.proofs.mark_repeats.Goals as goal
use Rattle.upload_fates.proofs.mark_repeats.Goals.{At-loop-place, then-not-comes_before, else-not-comes_before}

abbrev list : At-loop-place → List ℕ
list l = l.args.list.now

named : (l : At-loop-place) (i : ℕ) → i < length (list l) → get_or (list l) i 0 * column_count + column_count ≤ length l.args.upload.now
named l i h = leb-true _ _ (all_at_lem (in_rows l.args.upload.now) (list l) i 0 l.requires.list_value h)

pub loop-place-init : goal.loop-place-init
loop-place-init c = ((λ h. absurd (omega arith)), marked_one c.args.upload.now c.args.list.now c.args.fates.now)

pub comes_before-requires-clause-column_count_in_bounds : goal.comes_before-requires-clause-column_count_in_bounds
comes_before-requires-clause-column_count_in_bounds c =
    named (goal.at.comes_before-requires-clause-column_count_in_bounds c).At-loop-place (c.loop-place.place - 1) (omega arith)

pub comes_before-requires-clause-column_count_in_bounds_2 : goal.comes_before-requires-clause-column_count_in_bounds_2
comes_before-requires-clause-column_count_in_bounds_2 c =
    named (goal.at.comes_before-requires-clause-column_count_in_bounds_2 c).At-loop-place c.loop-place.place (omega arith)

-- a number that names a row has a fate
pub bounds-fates-wide : goal.bounds-fates-wide
bounds-fates-wide c =
    let n = named (goal.at.bounds-fates-wide c).At-loop-place c.loop-place.place (omega arith) in
    omega (arith, c.wide.ensures, c.requires.upload_in_bounds, c.loop-place.auto.fates)

pub loop-place-preserved : goal.loop-place-preserved
loop-place-preserved c =
    let a = c.args in
    let p = c.loop-place.place in (
      (λ h. omega arith),
      elim c.if-not-comes_before.branch [
        | then-not-comes_before w ↦
            rw (w.fates-is, w.wide.ensures, c.loop-place.invariant.1)
            (marked_yes a.upload.now a.list.now a.fates.now p (omega arith) (rw (sym c.comes_before.ensures ∙ w.if-not-comes_before.true)))
        | else-not-comes_before w ↦
            rw (w.fates-is, c.loop-place.invariant.1)
            (marked_no a.upload.now a.list.now a.fates.now p (omega arith) (rw (sym c.comes_before.ensures ∙ w.if-not-comes_before.false)))
      ],
    )

pub returns : goal.returns
returns c =
    let a = c.args in
    c.loop-place.invariant.1 ∙ marked_end a.upload.now a.list.now a.fates.now c.loop-place.place (omega arith) (omega arith)
    (λ h. let m = c.loop-place.invariant.0 h in omega arith)
