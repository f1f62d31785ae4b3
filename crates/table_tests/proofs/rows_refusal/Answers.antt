-- `table_tests::rows_refusal` meets its contract. The loop's invariant: `kinds` and `years` say whether the rows before `row` have right kinds and years.
use Rattle.std.proofs.Common.{◌≡◌, ◌/◌, Bool, true, false, cond, [], length, refl, sym, ◌∙◌, arith}
use Rattle.tables.specs.Tables.{tables_of, column_count}
use Rattle.table_tests.specs.Refusals.{rows_refusal}
use Rattle.table_tests.proofs.RowKinds.{kinds_none, years_none, kinds_next, years_next, rows_all}
use Rattle.table_tests.proofs.rows_refusal.Goals as goal
use Rattle.table_tests.proofs.rows_refusal.Goals.{At-loop-row}

pub loop-row-init : goal.loop-row-init
loop-row-init c = (kinds_none c.args.rows.now, years_none c.args.rows.now)

pub loop-row-preserved : goal.loop-row-preserved
loop-row-preserved c =
    let i = c.loop-row.invariant in (
      kinds_next c.args.rows.now c.loop-row.row c.loop-row.kinds c.row_right-kinds.result i.0 c.row_right-kinds.ensures,
      years_next c.args.rows.now c.loop-row.row c.loop-row.years c.year_right-years.result i.1 c.year_right-years.ensures,
    )

-- what the answer is by the two tests
answer : (l : At-loop-row) (kinds years : Bool) →
    let rows = l.args.rows.now in
    l.loop-row.row ≡ length rows / column_count → l.loop-row.kinds ≡ kinds → l.loop-row.years ≡ years
    → cond kinds (cond years 0 23) 2 ≡ rows_refusal (tables_of rows [] [])
answer l kinds years h k y =
    sym (rows_all l.args.rows.now l.loop-row.row h kinds years (sym k ∙ l.loop-row.invariant.0) (sym y ∙ l.loop-row.invariant.1))

pub returns-then-not-kinds : goal.returns-then-not-kinds
returns-then-not-kinds c = answer (goal.at.returns-then-not-kinds c).At-loop-row false c.loop-row.years (omega arith) c.if-not-kinds.true refl

pub returns-then-not-years : goal.returns-then-not-years
returns-then-not-years c = answer (goal.at.returns-then-not-years c).At-loop-row true false (omega arith) c.if-not-kinds.false c.if-not-years.true

pub returns : goal.returns
returns c = answer (goal.at.returns c).At-loop-row true true (omega arith) c.if-not-kinds.false c.if-not-years.false
