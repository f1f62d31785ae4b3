-- `subject_seen` meets its contract. The invariant: what the flags of the rows before `next` tell is seen.
use Prim.Native.Nat.{ℕ, ◌/◌}
use mathlib.Core.Path.{◌≡◌, sym, ap, ap₂, ◌∙◌}
use mathlib.Core.List.{List}
use mathlib.Core.Bool.{Bool, ◌||◌}
use native.Mathlib.Omega.{arith}
use lib.ListN.{length, get_or}
use lib.Dec.{eqb}
use borrow.Author.Tests.{not-true, not-false}
use Rattle.sequences.specs.Sequences.{some_below}
use Rattle.tables.specs.Tables.{column_count, year_column, subject_column, field_of}
use Rattle.views.specs.Views.{is_of}
use Rattle.view_marks.specs.Told.{told}
use Rattle.view_marks.proofs.Subjects.{some_told_lem, told_before, told_after}
use Rattle.view_marks.proofs.subject_seen.Goals as goal
use Rattle.view_marks.proofs.subject_seen.Goals.{After-is_of, At-loop-next}

abbrev Loop : Type 0
Loop = At-loop-next

abbrev rows : Loop → List ℕ
rows l = l.args.rows.now

abbrev flags : Loop → List ℕ
flags l = l.args.flags.now

abbrev row : Loop → ℕ
row l = l.args.row

abbrev granted : Loop → Bool
granted l = l.args.granted

-- the year and the subject that are looked for
abbrev year : Loop → ℕ
year l = field_of (rows l) (row l) year_column

abbrev subject : Loop → ℕ
subject l = field_of (rows l) (row l) subject_column

-- whether the next row is of them
asks : (c : After-is_of) →
    c.is_of.result ≡ is_of (c.args.rows.now) ((field_of (c.args.rows.now) (c.args.row) year_column))
    ((field_of (c.args.rows.now) (c.args.row) subject_column)) c.loop-next.next
asks c =
    c.is_of.ensures
    ∙ ap₂ (λ y s. is_of (c.args.rows.now) y s c.loop-next.next) c.field-year.ensures c.field-subject.ensures

pub field-year-requires : goal.field-year-requires
field-year-requires c = let h = c.requires.first_of_subject.there in (omega arith, omega arith)

pub field-subject-requires : goal.field-subject-requires
field-subject-requires c = let h = c.requires.first_of_subject.there in (omega arith, omega arith)

pub overflow_cast-count : goal.overflow_cast-count
overflow_cast-count c = let h = c.requires.rows_right.few in omega arith

pub loop-next-init : goal.loop-next-init
loop-next-init c =
    let h = c.requires.first_of_subject.there in
    (omega arith, omega arith, told_before c.args.rows.now c.args.flags.now c.args.granted c.args.row c.requires.first_of_subject)

pub returns-then-not-is_of : goal.returns-then-not-is_of
returns-then-not-is_of c =
    c.loop-next.invariant.2
    ∙ ap (λ b. granted (goal.at.returns-then-not-is_of c).At-loop-next || b)
    (sym (told_after (rows (goal.at.returns-then-not-is_of c).At-loop-next) c.requires.rows_right
    (flags (goal.at.returns-then-not-is_of c).At-loop-next)
    (row (goal.at.returns-then-not-is_of c).At-loop-next) c.loop-next.next c.loop-next.invariant.0 (omega arith)
    (sym (asks (goal.at.returns-then-not-is_of c).After-is_of) ∙ not-true _ c.if-not-is_of.true-raw)))

pub bounds-flags-wide : goal.bounds-flags-wide
bounds-flags-wide c = omega (arith, c.wide.ensures, c.requires.column_count_in_bounds)

pub loop-next-preserved : goal.loop-next-preserved
loop-next-preserved c = (
  omega arith,
  omega arith,
  c.either-seen.ensures
      ∙ ap (λ b. b || eqb (get_or (flags (goal.at.loop-next-preserved c).At-loop-next) c.wide.result 0) 1) c.loop-next.invariant.2
      ∙ ap (λ n. (granted (goal.at.loop-next-preserved c).At-loop-next || some_below
      (told (rows (goal.at.loop-next-preserved c).At-loop-next) (flags (goal.at.loop-next-preserved c).At-loop-next)
      (year (goal.at.loop-next-preserved c).At-loop-next) (subject (goal.at.loop-next-preserved c).At-loop-next)) c.loop-next.next)
      || eqb (get_or (flags (goal.at.loop-next-preserved c).At-loop-next) n 0) 1)
      c.wide.ensures
      ∙ some_told_lem (rows (goal.at.loop-next-preserved c).At-loop-next) (flags (goal.at.loop-next-preserved c).At-loop-next)
      (granted (goal.at.loop-next-preserved c).At-loop-next) (year (goal.at.loop-next-preserved c).At-loop-next)
      (subject (goal.at.loop-next-preserved c).At-loop-next) c.loop-next.next
      (sym (asks (goal.at.loop-next-preserved c).After-is_of) ∙ not-false _ c.if-not-is_of.false-raw),
)

pub returns : goal.returns
returns c =
    let n : c.loop-next.next ≡ length (rows (goal.at.returns c).At-loop-next) / column_count = omega arith in
    c.loop-next.invariant.2 ∙ ap (λ k. granted (goal.at.returns c).At-loop-next || some_below
    (told (rows (goal.at.returns c).At-loop-next) (flags (goal.at.returns c).At-loop-next) (year (goal.at.returns c).At-loop-next)
    (subject (goal.at.returns c).At-loop-next)) k) n
