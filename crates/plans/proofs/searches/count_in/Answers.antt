-- `count_in` meets its contract: the kind is tested, and then the count.
use native.Mathlib.Omega.{arith}
use borrow.Author.Tests.{eq-eqb, ne_eqb, le-leb, lt-leb}
use Rattle.plans.proofs.searches.count_in.Goals as goal

pub returns-then-kind : goal.returns-then-kind
returns-then-kind c =
    (rw (← c.first.ensures, ← c.kind.ensures, ne_eqb _ _ c.if-kind.true), omega arith)

pub returns-then-n-most : goal.returns-then-n-most
returns-then-n-most c =
    (rw (← c.first.ensures, ← c.kind.ensures, eq-eqb _ _ c.if-kind.false, ← c.low-n.ensures, lt-leb _ _ c.if-n-most.true), omega arith)

pub returns : goal.returns
returns c =
    (rw (← c.first.ensures, ← c.kind.ensures, eq-eqb _ _ c.if-kind.false, ← c.low-n.ensures, le-leb _ _ c.if-n-most.false), omega arith)
