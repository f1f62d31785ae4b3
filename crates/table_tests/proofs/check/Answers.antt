-- `table_tests::check` meets its contract: the orders are walked, and where all are right and there is one year, what stands last is looked at;
-- where that does not settle it, the tests of kinds and years are made first.
use Prim.Native.Nat.{◌-◌}
use mathlib.Core.Path.{◌≡◌, sym, ◌∙◌, ap}
use mathlib.Core.Bool.{true}
use native.Mathlib.Omega.{arith}
use lib.ListN.{length}
use borrow.Author.Tests.{eqb-true}
use Rattle.words.specs.Tests.{first_failing, number_of}
use Rattle.tables.specs.declared.Order.TheVariants.{Spo}
use Rattle.tables.specs.Tables.{Tables, tables_of, row_count, lengths_right, kinds_right, years_right, ascends, table_tests}
use Rattle.tables.specs.Right.{Sized}
use Rattle.tables.proofs.RightTables.{lengths_sized}
use Rattle.table_walk_keys.specs.Walk.{Words, OneYear}
use Rattle.table_walk_keys.proofs.Keys.{one_year}
use Rattle.table_tests.specs.Refusals.{refusal_after, refusal_with}
use Rattle.table_tests.proofs.RowKinds.{rows_alone}
use Rattle.table_tests.proofs.Refusing.{lengths_first, orders_say, all_named, own_up, all_up, no_rows_fact, refusal_with_lem}
use Rattle.table_tests.proofs.Ends.{ends_say}
use Rattle.table_tests.proofs.check.Goals as goal
use Rattle.table_tests.proofs.check.Goals.{After-walk-orders, After-years_alike-alike, Else-not-lengths_right, Start}

abbrev lent : Start → Tables
lent s = tables_of s.args.rows.now s.args.pos.now s.args.osp.now

-- what is known after the test of the lengths
abbrev checked : Else-not-lengths_right → Tables
checked c = (tables_of c.args.rows.now c.args.pos.now c.args.osp.now)

lengths : (c : Else-not-lengths_right) → lengths_right (checked c) ≡ true
lengths c = sym c.lengths_right.ensures ∙ c.if-not-lengths_right.false

sized : (c : Else-not-lengths_right) → Sized (checked c)
sized c = lengths_sized (checked c) (lengths c)

fits : (c : Else-not-lengths_right) → Words (checked c).rows
fits c i = omega (arith, c.type_inv.rows i)

-- what is known of the rows where they ascend: one year, if the first and the last have one
abbrev looked : After-years_alike-alike → Tables
looked f = (tables_of f.args.rows.now f.args.pos.now f.args.osp.now)

alike : (f : After-years_alike-alike) → Sized (looked f) → ascends Spo (looked f) ≡ true → f.years_alike-alike.result ≡ true
    → OneYear (looked f).rows
alike f z u h =
    let n : length (looked f).pos ≡ row_count (looked f) = z.pos_length in
    one_year (looked f) u (eqb-true _ _ (rw (← n) (sym f.years_alike-alike.ensures ∙ h)))

-- what the orders say where kinds and years are right
abbrev walked : After-walk-orders → Tables
walked w = (tables_of w.args.rows.now w.args.pos.now w.args.osp.now)

by_orders : (w : After-walk-orders) → Sized (walked w) → Words (walked w).rows
    → (ascends Spo (walked w) ≡ true → w.years_alike-alike.result ≡ true → OneYear (walked w).rows)
    → (kinds_right (walked w) ≡ true) × (years_right (walked w) ≡ true)
    → number_of (first_failing (table_tests (walked w))) ≡ refusal_after w.walk-orders.result
by_orders w z fit one p =
    orders_say (walked w) z fit p w.years_alike-alike.result one ∙ ap refusal_after (sym w.walk-orders.ensures)

pub returns-then-not-lengths_right : goal.returns-then-not-lengths_right
returns-then-not-lengths_right c =
    sym (lengths_first (lent (goal.at.returns-then-not-lengths_right c).Start) (sym c.lengths_right.ensures ∙ c.if-not-lengths_right.true))

pub returns-then-pos-eq0 : goal.returns-then-pos-eq0
returns-then-pos-eq0 c =
    let z = sized (goal.at.returns-then-pos-eq0 c).Else-not-lengths_right in
    sym (no_rows_fact (checked (goal.at.returns-then-pos-eq0 c).Else-not-lengths_right) z
    (fits (goal.at.returns-then-pos-eq0 c).Else-not-lengths_right) (omega (arith, c.if-pos-eq0.true)))

pub overflow_cast-count : goal.overflow_cast-count
overflow_cast-count c = let z = sized (goal.at.overflow_cast-count c).Else-not-lengths_right in omega arith

pub years_alike-alike-requires : goal.years_alike-alike-requires
years_alike-alike-requires c = let z = sized (goal.at.years_alike-alike-requires c).Else-not-lengths_right in
    record { column_count_value = omega arith; count_nonzero = omega (arith, c.if-pos-eq0.false) }

pub walk-orders-requires : goal.walk-orders-requires
walk-orders-requires c = let z = sized (goal.at.walk-orders-requires c).Else-not-lengths_right in
    record { sized = z; nonzero = omega (arith, c.if-pos-eq0.false) }

pub passes-requires : goal.passes-requires
passes-requires c = let z = sized (goal.at.passes-requires c).Else-not-lengths_right in record {
  sized = z;
  nonzero = omega (arith, c.if-pos-eq0.false);
  last_named = λ e o.
      all_named (looked (goal.at.passes-requires c).After-years_alike-alike) z
      (fits (goal.at.passes-requires c).Else-not-lengths_right) c.years_alike-alike.result
      (alike (goal.at.passes-requires c).After-years_alike-alike (sized (goal.at.passes-requires c).Else-not-lengths_right)) (sym c.walk-orders.ensures ∙ e)
      o (row_count (looked (goal.at.passes-requires c).After-years_alike-alike) - 1) (omega (arith, c.if-pos-eq0.false));
}

pub returns-then-passes : goal.returns-then-passes
returns-then-passes c =
    let t = looked (goal.at.returns-then-passes c).After-years_alike-alike in
    let z = sized (goal.at.returns-then-passes c).Else-not-lengths_right in
    let fit = fits (goal.at.returns-then-passes c).Else-not-lengths_right in
    let y = c.passes.ensures c.if-passes.true in
    let r = sym c.walk-orders.ensures ∙ y.all_right in
    let one = alike (goal.at.returns-then-passes c).After-years_alike-alike z
    (own_up t z fit _ (alike (goal.at.returns-then-passes c).After-years_alike-alike
    (sized (goal.at.returns-then-passes c).Else-not-lengths_right)) r) y.one in
    let says = ends_say t one (all_named t z fit _
    (alike (goal.at.returns-then-passes c).After-years_alike-alike (sized (goal.at.returns-then-passes c).Else-not-lengths_right)) r)
    (all_up t z fit _ (alike (goal.at.returns-then-passes c).After-years_alike-alike
    (sized (goal.at.returns-then-passes c).Else-not-lengths_right)) r) y.ends in
    sym (orders_say t z fit says _
    (alike (goal.at.returns-then-passes c).After-years_alike-alike (sized (goal.at.returns-then-passes c).Else-not-lengths_right)) ∙ ap refusal_after r)

pub first_refusal-requires : goal.first_refusal-requires
first_refusal-requires c = let z = sized (goal.at.first_refusal-requires c).Else-not-lengths_right in omega arith

pub returns : goal.returns
returns c =
    let t = checked (goal.at.returns c).Else-not-lengths_right in
    c.first_refusal.ensures
    ∙ ap (λ n. refusal_with n c.walk-orders.result) (rows_alone t.rows t.pos t.osp)
    ∙ sym (refusal_with_lem t (sized (goal.at.returns c).Else-not-lengths_right) c.walk-orders.result
    (by_orders (goal.at.returns c).After-walk-orders (sized (goal.at.returns c).Else-not-lengths_right)
    (fits (goal.at.returns c).Else-not-lengths_right) (alike (goal.at.returns c).After-years_alike-alike (sized (goal.at.returns c).Else-not-lengths_right))))
