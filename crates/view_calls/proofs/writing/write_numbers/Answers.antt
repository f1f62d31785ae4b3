-- `write_numbers` meets its contract. The invariant: the numbers of the places before `place` that are not hidden are written.
use Prim.Native.Nat.{ℕ, ◌+◌, ◌<◌}
use mathlib.Core.Path.{◌≡◌, refl, sym, ap, ◌∙◌}
use mathlib.Core.List.{List, [], ◌∷◌, ◌++◌}
use native.Mathlib.Omega.{arith}
use lib.ListN.{length, get_or, take, drop}
use mathlib.Core.Path.{ap₂}
use mathlib.Core.Bool.{cond}
use lib.Dec.{ltb}
use lib.ListN.{set, length-set, take-append-drop}
use lib.Seq.{drop-set-lt}
use borrow.Author.Tests.{ltb-true}
use Rattle.sequences.proofs.Elements.{all_at_lem}
use Rattle.upload_writes.proofs.Written.{written_none, written_part}
use Rattle.view_marks.specs.Marks.{hidden_mark}
use Rattle.view_calls.specs.Writing.{shown_by}
use Rattle.view_calls.proofs.Putting.{part_all, used_next, front_next, place_left}
use Rattle.view_calls.proofs.writing.write_numbers.Goals as goal
use Rattle.view_calls.proofs.writing.write_numbers.Goals.{At-loop-used}

abbrev Loop : Type 0
Loop = At-loop-used

abbrev list : Loop → List ℕ
list l = l.args.list.now

abbrev marks : Loop → List ℕ
marks l = l.args.marks.now

abbrev row : Loop → ℕ
row l = get_or (list l) l.loop-used.place 0

-- a place is left
left : (l : Loop) → l.loop-used.used < l.args.seen → l.loop-used.place < length (list l)
left l h = place_left (marks l) (list l) l.loop-used.place (omega (arith, l.loop-used.invariant.2, l.requires.seen_value.0))

named : (l : Loop) → l.loop-used.used < l.args.seen → row l < length (marks l)
named l h = ltb-true _ _ (all_at_lem (λ n. ltb n (length (marks l))) (list l) l.loop-used.place 0 l.requires.list_value (left l h))

pub loop-used-init : goal.loop-used-init
loop-used-init c =
    let a = c.args in
    let n = written_none (shown_by a.marks.now) (λ row. get_or a.marks.now row 0 ∷ []) in
    (omega arith, refl, ap length n, n, refl)

pub offset_bounds-list-place : goal.offset_bounds-list-place
offset_bounds-list-place c = omega (arith, left (goal.at.offset_bounds-list-place c).At-loop-used (omega arith))

pub bounds-list-place : goal.bounds-list-place
bounds-list-place c = omega (arith, left (goal.at.bounds-list-place c).At-loop-used (omega arith))

pub offset_bounds-marks-wide : goal.offset_bounds-marks-wide
offset_bounds-marks-wide c = omega (arith, c.wide.ensures, named (goal.at.offset_bounds-marks-wide c).At-loop-used (omega arith))

pub bounds-marks-wide : goal.bounds-marks-wide
bounds-marks-wide c = omega (arith, c.wide.ensures, named (goal.at.bounds-marks-wide c).At-loop-used (omega arith))

pub offset_bounds-view-used : goal.offset_bounds-view-used
offset_bounds-view-used c = omega (arith, c.requires.seen_value.1, c.loop-used.invariant.1)

pub bounds-view-used : goal.bounds-view-used
bounds-view-used c = omega (arith, c.requires.seen_value.1, c.loop-used.invariant.1)

pub one_more-used-requires : goal.one_more-used-requires
one_more-used-requires c = omega (arith, c.requires.seen_value.2)

pub overflow_add-place : goal.overflow_add-place
overflow_add-place c = omega (arith, left (goal.at.overflow_add-place c).At-loop-used (omega arith))

pub loop-used-smaller : goal.loop-used-smaller
loop-used-smaller c = omega (arith, left (goal.at.loop-used-smaller c).At-loop-used (omega arith))

pub loop-used-preserved : goal.loop-used-preserved
loop-used-preserved c =
    let used = c.loop-used.used in
    let place = c.loop-used.place in
    let h = left (goal.at.loop-used-preserved c).At-loop-used (omega arith) in
    let u : c.one_more-used.result ≡ cond
    (shown_by (marks (goal.at.loop-used-preserved c).At-loop-used) (row (goal.at.loop-used-preserved c).At-loop-used)) (used + 1) used =
    c.one_more-used.ensures ∙ ap (λ r. cond (ltb (get_or (marks (goal.at.loop-used-preserved c).At-loop-used) r 0) hidden_mark) (used + 1) used)
    c.wide.ensures in (
      omega (arith, h),
      (simp length-set) ∙ c.loop-used.invariant.1,
      u ∙ used_next (marks (goal.at.loop-used-preserved c).At-loop-used)
          (list (goal.at.loop-used-preserved c).At-loop-used) place h used c.loop-used.invariant.2,
      ap₂ (λ n r. take n (set c.loop-used.view used (get_or (marks (goal.at.loop-used-preserved c).At-loop-used) r 0))) u c.wide.ensures
          ∙ front_next (marks (goal.at.loop-used-preserved c).At-loop-used)
          (list (goal.at.loop-used-preserved c).At-loop-used) place h c.loop-used.view used
          (omega (arith, c.requires.seen_value.1, c.loop-used.invariant.1)) c.loop-used.invariant.3,
      drop-set-lt c.args.seen c.loop-used.view used (get_or (marks (goal.at.loop-used-preserved c).At-loop-used) c.wide.result 0) (omega arith) ∙
          c.loop-used.invariant.4,
    )

pub returns : goal.returns
returns c =
    let p = written_part (shown_by (marks (goal.at.returns c).At-loop-used))
    (λ r. get_or (marks (goal.at.returns c).At-loop-used) r 0 ∷ []) c.loop-used.place (list (goal.at.returns c).At-loop-used) in
    let n : c.args.seen ≡ c.loop-used.used = omega (arith, p, c.loop-used.invariant.2, c.requires.seen_value.0) in
    let e = part_all (shown_by (marks (goal.at.returns c).At-loop-used))
    (λ r. get_or (marks (goal.at.returns c).At-loop-used) r 0 ∷ []) c.loop-used.place (list (goal.at.returns c).At-loop-used)
    (omega (arith, n, c.loop-used.invariant.2, c.requires.seen_value.0)) in
    sym (take-append-drop c.args.seen c.loop-used.view)
    ∙ ap₂ ◌++◌ (ap (λ k. take k c.loop-used.view) n ∙ c.loop-used.invariant.3 ∙ e)
    (c.loop-used.invariant.4 ∙ ap (λ k. drop k c.args.view.now) c.requires.seen_value.0)
