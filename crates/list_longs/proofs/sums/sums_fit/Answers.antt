-- `sums_fit` meets its contract: whether two sums together fit is told by their signs, and of one sign by their bits.
use Prim.Native.Nat.{ℕ, suc, ◌+◌, ◌-◌, ◌≤◌, ◌<◌}
use mathlib.Core.Path.{◌≡◌, refl, sym, ◌∙◌, ap}
use mathlib.Core.Bool.{Bool, true, false}
use native.Mathlib.Omega.{arith}
use borrow.Author.Tests.{lt-ltb, le-ltb, leb-true, leb-false}
use lib.Dec.{ltb, leb}
use lib.IntN.{◌+ℤ◌, +ℤ_comm}
use Rattle.lists.specs.Sums.{long_values, half_longs, sum_fits, sum_in}
use Rattle.lists.proofs.Sums.{fit_low, fit_high, fit_mixed}
use Rattle.list_longs.proofs.sums.sums_fit.Goals as goal

-- both below zero
high_fits : (x y : ℕ) → half_longs ≤ x → half_longs ≤ y → x < long_values → y < long_values
    → leb half_longs (x - half_longs + (y - half_longs)) ≡ sum_fits (sum_in x +ℤ sum_in y)
high_fits x y h k l m = go (leb half_longs (x - half_longs + (y - half_longs))) refl ∙ ap sum_fits (sym (fit_high x y h k l m))
  where
    go : (t : Bool) → leb half_longs (x - half_longs + (y - half_longs)) ≡ t
        → leb half_longs (x - half_longs + (y - half_longs)) ≡ ltb (long_values + long_values - suc (x + y)) half_longs
    go true e =
        let z = leb-true half_longs (x - half_longs + (y - half_longs)) e in
        e ∙ sym (lt-ltb (long_values + long_values - suc (x + y)) half_longs (omega arith))
    go false e =
        let z = leb-false half_longs (x - half_longs + (y - half_longs)) e in
        e ∙ sym (le-ltb (long_values + long_values - suc (x + y)) half_longs (omega arith))

pub returns-then-y-lt-HALF_LONGS : goal.returns-then-y-lt-HALF_LONGS
returns-then-y-lt-HALF_LONGS c =
    sym (ap sum_fits (fit_low c.args.x c.args.y c.if-x-lt-HALF_LONGS.true c.if-y-lt-HALF_LONGS.true))

pub returns-then-x-lt-HALF_LONGS : goal.returns-then-x-lt-HALF_LONGS
returns-then-x-lt-HALF_LONGS c =
    sym (fit_mixed c.args.x c.args.y c.if-x-lt-HALF_LONGS.true c.if-y-lt-HALF_LONGS.false (omega arith))

pub returns-then-y-lt-HALF_LONGS-2 : goal.returns-then-y-lt-HALF_LONGS-2
returns-then-y-lt-HALF_LONGS-2 c =
    sym (ap sum_fits (+ℤ_comm (sum_in c.args.x) (sum_in c.args.y))
    ∙ fit_mixed c.args.y c.args.x c.if-y-lt-HALF_LONGS-2.true c.if-x-lt-HALF_LONGS.false (omega arith))

pub returns : goal.returns
returns c =
    high_fits c.args.x c.args.y c.if-x-lt-HALF_LONGS.false c.if-y-lt-HALF_LONGS-2.false (omega arith) (omega arith)
