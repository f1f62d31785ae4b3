-- `node_of` meets its contract: each test that it makes is one of the definition's.
use borrow.Author.Tests.{eq-eqb, ne_eqb, le-leb, lt-leb}
use Rattle.plans.specs.Conditions.{node_of}
use Rattle.plans.proofs.node_of.Goals as goal

pub returns-then-low-le-LAST_OPERATOR : goal.returns-then-low-le-LAST_OPERATOR
unfolding node_of
returns-then-low-le-LAST_OPERATOR c = rw (
  ← c.kind-kind.ensures,
  ← c.low-low.ensures,
  eq-eqb _ _ c.if-kind-eq-COMPARISON.true,
  le-leb _ _
      c.if-low-le-LAST_OPERATOR.true,
)

pub returns-then-kind-eq-COMPARISON : goal.returns-then-kind-eq-COMPARISON
unfolding node_of
returns-then-kind-eq-COMPARISON c = rw (
  ← c.kind-kind.ensures,
  ← c.low-low.ensures,
  eq-eqb _ _ c.if-kind-eq-COMPARISON.true,
  lt-leb _ _
      c.if-low-le-LAST_OPERATOR.false,
)

pub returns-then-low-ne0 : goal.returns-then-low-ne0
unfolding node_of
returns-then-low-ne0 c = rw (
  ← c.kind-kind.ensures,
  ← c.low-low.ensures,
  ne_eqb _ _ c.if-kind-eq-COMPARISON.false,
  ne_eqb _ _
      c.if-low-ne0.true,
)

pub returns-in-3 : goal.returns-in-3
unfolding node_of
returns-in-3 c = rw (
  ← c.kind-kind.ensures,
  ← c.low-low.ensures,
  eq-eqb _ _ c.if-low-ne0.false,
  c.in-3.is,
)

pub returns-in-4 : goal.returns-in-4
unfolding node_of
returns-in-4 c = rw (
  ← c.kind-kind.ensures,
  ← c.low-low.ensures,
  eq-eqb _ _ c.if-low-ne0.false,
  c.in-4.is,
)

pub returns-in-5 : goal.returns-in-5
unfolding node_of
returns-in-5 c = rw (
  ← c.kind-kind.ensures,
  ← c.low-low.ensures,
  eq-eqb _ _ c.if-low-ne0.false,
  c.in-5.is,
)

pub returns-in-6 : goal.returns-in-6
unfolding node_of
returns-in-6 c = rw (
  ← c.kind-kind.ensures,
  ← c.low-low.ensures,
  eq-eqb _ _ c.if-low-ne0.false,
  c.in-6.is,
)

pub returns-in_default : goal.returns-in_default
unfolding node_of
returns-in_default c = let r = c.in_default.in_default-own.rest in
    rw (
      ← c.kind-kind.ensures,
      ← c.low-low.ensures,
      ne_eqb _ _ c.if-kind-eq-COMPARISON.false,
      eq-eqb _ _ c.if-low-ne0.false,
      ne_eqb _ _ r.0.0.0.1,
      ne_eqb _ _ r.0.0.1,
      ne_eqb _ _ r.0.1,
      ne_eqb _ _ r.1,
    )
