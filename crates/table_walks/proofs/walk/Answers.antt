-- `table_walks::walk` meets its contract. The invariants: the orders before `turn` are right; of this order the places before
-- `place` are, and `last` has the keys of the one before it; `before` says whether it comes before the next by the columns from `column` on.
use Rattle.std.proofs.Common.{◌≡◌, ℕ, ◌+◌, ◌-◌, ◌<◌, Bool, true, false, List, length, drop, sym, ap, ◌∙◌, subst, ap₂, arith}
use Rattle.sequences.specs.Sequences.{lex_before}
use Rattle.tables.specs.declared.Order.{Order}
use Rattle.tables.specs.Tables.{Tables, tables_of, row_count, row_at}
use Rattle.tables.specs.Right.{Sized}
use Rattle.tables.proofs.Sides.{from_end}
use Rattle.table_walk_keys.specs.Walk.{key_count, keys_at, order_at, order_count, order_right, right_orders}
use Rattle.table_walk_keys.proofs.Keys.{keys_length}
use Rattle.table_walk_keys.proofs.Walking.{RightBefore, read_row, read_keys, read_none, upto_first, upto_next, unnamed_fault, descent_fault}
use Rattle.table_walk_keys.proofs.Walking.{orders_fault, orders_all}
use Rattle.table_walks.proofs.Columns.{column_says}
use Rattle.table_walks.proofs.Cuts.{cut_all, cut_all_none}
use Rattle.table_walks.proofs.walk.Goals as goal
use Rattle.table_walks.proofs.walk.Goals.{At-loop-column, In-Some-read}

-- ---- the tables cut to the lengths that they have
module _ (t : Tables) (s : Sized t) where
  some_rows : 0 < row_count t → 0 < row_count (cut_all t)
  some_rows h = subst (λ u. 0 < row_count u) (sym (cut_all_none t s)) h

  -- there are as many places as POS has
  all_places : length t.pos ≡ row_count (cut_all t)
  all_places = s.pos_length ∙ ap row_count (sym (cut_all_none t s))

  -- an order with a fault is where the walk stops
  stops : (alike : Bool) (turn : ℕ) (order : Order) → RightBefore alike (cut_all t) turn → turn < order_count → order ≡ order_at turn
      → order_right alike (cut_all t) order ≡ false → turn ≡ right_orders alike t
  stops alike turn order b h is e =
      sym (orders_fault alike (cut_all t) turn b h (rw is at e))
      ∙ ap (right_orders alike) (cut_all_none t s)

-- ---- with the keys of the row after `last`
module _ (n : In-Some-read) where
  abbrev given : Tables
  given = tables_of n.args.rows.now n.args.pos.now n.args.osp.now

  abbrev order : Order
  order = n.order_at-order.result

  abbrev keys : ℕ → List ℕ
  keys place = keys_at n.args.alike order (cut_all given) place

  abbrev last : List ℕ
  last = n.loop-place.last

  abbrev next : List ℕ
  next = n.in-Some-read.keys

  next_is : next ≡ keys n.loop-place.place
  next_is = read_keys n.args.alike (cut_all given) order n.loop-place.place next n.in-Some-read.ensures

  -- both rows have all columns
  last_length : length last ≡ key_count
  last_length = ap length n.loop-place.invariant.0 ∙ keys_length n.args.alike order (cut_all given).rows (row_at order (cut_all given) (n.loop-place.place - 1))

  next_length : length next ≡ key_count
  next_length = ap length next_is ∙ keys_length n.args.alike order (cut_all given).rows (row_at order (cut_all given) n.loop-place.place)

  -- what the rows' keys say of their places
  rows_say : (b : Bool) → lex_before last next ≡ b → lex_before (keys (n.loop-place.place - 1)) (keys n.loop-place.place) ≡ b
  rows_say b e = sym (ap₂ lex_before n.loop-place.invariant.0 next_is) ∙ e

-- at the first column it is said of the whole rows
all_say : (c : At-loop-column) → c.loop-column.column ≡ 0 → c.loop-column.before ≡ lex_before c.loop-place.last c.in-Some-read.keys
all_say c z =
    subst (λ (k : ℕ). c.loop-column.before ≡ lex_before (drop k c.loop-place.last) (drop k c.in-Some-read.keys)) z c.loop-column.invariant

-- ---- the goals
pub returns-in-None : goal.returns-in-None
returns-in-None c =
    let t = tables_of c.args.rows.now c.args.pos.now c.args.osp.now in
    let o = c.order_at-order.result in
    c.orders.invariant.1 ∙ stops t c.requires.sized c.args.alike c.orders.turn o c.orders.invariant.0 (omega arith) c.order_at-order.ensures
    (unnamed_fault c.args.alike (cut_all t) o 0 (some_rows t c.requires.sized c.requires.nonzero)
    (read_none c.args.alike (cut_all t) o 0 c.in-None.ensures))

pub loop-place-init : goal.loop-place-init
loop-place-init c =
    let t = cut_all (tables_of c.args.rows.now c.args.pos.now c.args.osp.now) in
    let o = c.order_at-order.result in
    let e = c.in-Some.ensures in
    (read_keys c.args.alike t o 0 c.in-Some.keys e, upto_first c.args.alike t o (read_row c.args.alike t o 0 c.in-Some.keys e))

pub returns-in-None-read : goal.returns-in-None-read
returns-in-None-read c =
    let t = tables_of c.args.rows.now c.args.pos.now c.args.osp.now in
    let o = c.order_at-order.result in
    let p = c.loop-place.place in
    let h : p < length c.args.pos.now = c.loop-place-test.true in
    c.orders.invariant.1 ∙ stops t c.requires.sized c.args.alike c.orders.turn o c.orders.invariant.0 (omega arith) c.order_at-order.ensures
    (unnamed_fault c.args.alike (cut_all t) o p (omega (arith, all_places t c.requires.sized))
    (read_none c.args.alike (cut_all t) o p c.in-None-read.ensures))

pub loop-column-init : goal.loop-column-init
loop-column-init c =
    let n = (goal.at.loop-column-init c).In-Some-read in
    sym (from_end (last n) (next n) key_count (omega (arith, next_length n)))

pub loop-column-preserved : goal.loop-column-preserved
loop-column-preserved c =
    let n = (goal.at.loop-column-preserved c).In-Some-read in
    let k = c.loop-column.column - 1 in
    let back : k + 1 ≡ c.loop-column.column = omega arith in
    c.before_from-before.ensures
    ∙ rw (c.key_at.ensures, c.key_at-in-loop-column.ensures, c.loop-column.invariant)
    (rw back at (column_says (last n) (next n) k (omega (arith, last_length n)) (omega (arith, next_length n))))

pub returns-then-not-before : goal.returns-then-not-before
returns-then-not-before c =
    let n = (goal.at.returns-then-not-before c).In-Some-read in
    let t = given n in
    let o = c.order_at-order.result in
    let p = c.loop-place.place in
    let h : p < length c.args.pos.now = c.loop-place-test.true in
    let s = all_say (goal.at.returns-then-not-before c).At-loop-column (omega arith) in
    c.orders.invariant.1 ∙ stops t c.requires.sized c.args.alike c.orders.turn o c.orders.invariant.0 (omega arith) c.order_at-order.ensures
    (descent_fault c.args.alike (cut_all t) o p (omega arith) (omega (arith, all_places t c.requires.sized))
    (rows_say n false (sym s ∙ c.if-not-before.true)))

pub loop-place-preserved : goal.loop-place-preserved
loop-place-preserved c =
    let n = (goal.at.loop-place-preserved c).In-Some-read in
    let t = cut_all (given n) in
    let o = c.order_at-order.result in
    let p = c.loop-place.place in
    let back : p + 1 - 1 ≡ p = omega arith in
    let row = read_row c.args.alike t o p (next n) c.in-Some-read.ensures in
    let s = all_say (goal.at.loop-place-preserved c).At-loop-column (omega arith) in (
      rw back (next_is n),
      upto_next c.args.alike t o p (omega arith) c.loop-place.invariant.1 row (rows_say n true (sym s ∙ c.if-not-before.false)),
    )

pub returns-after-orders : goal.returns-after-orders
returns-after-orders c =
    let t = tables_of c.args.rows.now c.args.pos.now c.args.osp.now in
    c.orders.invariant.1 ∙ sym (orders_all c.args.alike (cut_all t) c.orders.turn c.orders.invariant.0 (omega arith))
    ∙ ap (right_orders c.args.alike) (cut_all_none t c.requires.sized)
