-- `ending_kind_of` meets its contract: each kind of an ending, and no other.
use borrow.Author.Tests.{eq-eqb, ne_eqb, le-leb, lt-leb}
use Rattle.plans.specs.Endings.{ending_kind_of}
use Rattle.plan_endings.proofs.ending_kind_of.Goals as goal

pub returns-then-low-le-MOST_BEST : goal.returns-then-low-le-MOST_BEST
unfolding ending_kind_of
returns-then-low-le-MOST_BEST c =
    rw (← c.kind-kind.ensures, ← c.low-low.ensures, c.in-9.is, le-leb _ _ c.if-low-le-MOST_BEST.true)

pub returns-then-low-le-MOST_GROUP_VARIABLES : goal.returns-then-low-le-MOST_GROUP_VARIABLES
unfolding ending_kind_of
returns-then-low-le-MOST_GROUP_VARIABLES c =
    rw (← c.kind-kind.ensures, ← c.low-low.ensures, c.in-12.is, le-leb _ _ c.if-low-le-MOST_GROUP_VARIABLES.true)

pub returns-then-low-eq0 : goal.returns-then-low-eq0
unfolding ending_kind_of
returns-then-low-eq0 c =
    rw (← c.kind-kind.ensures, ← c.low-low.ensures, c.in-13.is, eq-eqb _ _ c.if-low-eq0.true)

pub returns-in-8 : goal.returns-in-8
unfolding ending_kind_of
returns-in-8 c =
    rw (← c.kind-kind.ensures, ← c.low-low.ensures, c.in-8.is)

pub returns-else-low-le-MOST_BEST : goal.returns-else-low-le-MOST_BEST
unfolding ending_kind_of
returns-else-low-le-MOST_BEST c =
    rw (← c.kind-kind.ensures, ← c.low-low.ensures, c.in-9.is, lt-leb _ _ c.if-low-le-MOST_BEST.false)

pub returns-else-low-le-MOST_GROUP_VARIABLES : goal.returns-else-low-le-MOST_GROUP_VARIABLES
unfolding ending_kind_of
returns-else-low-le-MOST_GROUP_VARIABLES c =
    rw (← c.kind-kind.ensures, ← c.low-low.ensures, c.in-12.is, lt-leb _ _ c.if-low-le-MOST_GROUP_VARIABLES.false)

pub returns-else-low-eq0 : goal.returns-else-low-eq0
unfolding ending_kind_of
returns-else-low-eq0 c =
    rw (← c.kind-kind.ensures, ← c.low-low.ensures, c.in-13.is, ne_eqb _ _ c.if-low-eq0.false)

pub returns-in_default : goal.returns-in_default
unfolding ending_kind_of
returns-in_default c =
    let r = c.in_default.in_default-own.rest in
    rw (
      ← c.kind-kind.ensures,
      ← c.low-low.ensures,
      ne_eqb _ _ r.0.0.0.1,
      ne_eqb _ _ r.0.0.1,
      ne_eqb _ _ r.0.1,
      ne_eqb _ _ r.1,
    )
