-- `years_before` meets its contract: row by row, those that begin an earlier year are counted.
use Prim.Native.Nat.{ℕ, ◌+◌, ◌/◌}
use Rattle.std.proofs.Common.{add-zero}
use mathlib.Core.Path.{◌≡◌, ◌∙◌, sym, ap}
use mathlib.Core.List.{[]}
use mathlib.Core.Bool.{Bool, cond, ◌&&◌}
use native.Mathlib.Omega.{arith}
use lib.Dec.{ltb}
use lib.ListN.{length}
use Rattle.sequences.specs.Sequences.{count_below}
use Rattle.tables.specs.Tables.{column_count, tables_of}
use Rattle.tables.specs.Years.{year_at}
use Rattle.reach.specs.Reach.{begins_year}
use Rattle.reach_calls.proofs.Cases as r
use Rattle.reach_calls.proofs.years.years_before.Goals as goal
use Rattle.reach_calls.proofs.years.years_before.Goals.{Joined-begins_before, then-begins_before, else-begins_before}

pub loop-row-init : goal.loop-row-init
loop-row-init c = (omega arith, omega arith, r.none_counted _)

-- a row counts one if it begins an earlier year
counts : (l : Joined-begins_before) → let t = tables_of l.args.rows.now [] [] in let row = l.loop-row.row in
    l.if-begins_before.begun ≡ l.loop-row.begun + cond (begins_year t row && ltb (year_at t row) l.args.year) 1 0
counts l =
    elim l.if-begins_before.branch [
      | then-begins_before w ↦ w.begun-is ∙ ap (λ b. l.loop-row.begun + cond b 1 0) (sym w.if-begins_before.true ∙ l.begins_before.ensures)
      | else-begins_before w ↦
          w.begun-is ∙ sym (add-zero l.loop-row.begun) ∙ ap (λ b. l.loop-row.begun + cond b 1 0) (sym w.if-begins_before.false ∙ l.begins_before.ensures)
    ]

pub loop-row-preserved : goal.loop-row-preserved
loop-row-preserved c =
    let t = tables_of c.args.rows.now [] [] in
    let row = c.loop-row.row in
    let inv = c.loop-row.invariant in
    let n = counts (goal.at.loop-row-preserved c).Joined-begins_before in (
      omega arith,
      omega (arith, r.at_most_one (begins_year t row && ltb (year_at t row) c.args.year), n, inv.1),
      n ∙ ap (λ k. k + cond (begins_year t row && ltb (year_at t row) c.args.year) 1 0) inv.2
          ∙ r.one_more_fact (λ n. begins_year t n && ltb (year_at t n) c.args.year) row,
    )

pub returns : goal.returns
returns c =
    let s = c.args in
    let rows = s.rows.now in
    let f : ℕ → Bool = λ n. begins_year (tables_of rows [] []) n && ltb (year_at (tables_of rows [] []) n) s.year in
    let end : c.loop-row.row ≡ length rows / column_count = omega arith in
    c.loop-row.invariant.2 ∙ ap (count_below f) end ∙ r.all_counted rows [] [] s.year
