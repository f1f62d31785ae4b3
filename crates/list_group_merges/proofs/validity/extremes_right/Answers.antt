-- `extremes_right` meets its contract.
use mathlib.Core.Path.{sym, ◌∙◌}
use native.Mathlib.Omega.{arith}
use borrow.Author.Tests.{eq-eqb, ne_eqb, not-true, not-false}
use Rattle.words.specs.Words.{unbound}
use Rattle.lists.proofs.Sums.{zero_in}
use Rattle.list_group_merges.proofs.validity.extremes_right.Goals as goal

pub returns-then-t-ne0 : goal.returns-then-t-ne0
returns-then-t-ne0 c =
    let t = c.args.t in
    rw (eq-eqb t.numbers 0 c.if-t-eq0.true, zero_in t.sum (omega arith), ne_eqb t.sum 0 c.if-t-ne0.true)

pub returns-then-t-ne-UNBOUND : goal.returns-then-t-ne-UNBOUND
returns-then-t-ne-UNBOUND c =
    let t = c.args.t in
    rw (
      eq-eqb t.numbers 0 c.if-t-eq0.true,
      zero_in t.sum (omega arith),
      eq-eqb t.sum 0 c.if-t-ne0.false,
      ne_eqb t.least unbound c.if-t-ne-UNBOUND.true,
    )

pub returns-then-t-eq0 : goal.returns-then-t-eq0
returns-then-t-eq0 c =
    let t = c.args.t in
    rw (
      eq-eqb t.numbers 0 c.if-t-eq0.true,
      zero_in t.sum (omega arith),
      eq-eqb t.sum 0 c.if-t-ne0.false,
      eq-eqb t.least unbound c.if-t-ne-UNBOUND.false,
    )

pub returns-then-not-is_number : goal.returns-then-not-is_number
returns-then-not-is_number c =
    let t = c.args.t in
    rw (
      ne_eqb t.numbers 0 c.if-t-eq0.false,
      sym c.is_number.ensures ∙ not-true c.is_number.result c.if-not-is_number.true-raw,
    )

pub returns-then-not-is_number-2 : goal.returns-then-not-is_number-2
returns-then-not-is_number-2 c =
    let t = c.args.t in
    rw (
      ne_eqb t.numbers 0 c.if-t-eq0.false,
      sym c.is_number.ensures ∙ not-false c.is_number.result c.if-not-is_number.false-raw,
      sym c.is_number-2.ensures ∙ not-true c.is_number-2.result c.if-not-is_number-2.true-raw,
    )

pub returns : goal.returns
returns c =
    let t = c.args.t in
    rw (
      c.value_rank.ensures,
      c.value_rank-2.ensures,
      ne_eqb t.numbers 0 c.if-t-eq0.false,
      sym c.is_number.ensures ∙ not-false c.is_number.result
          c.if-not-is_number.false-raw,
      sym c.is_number-2.ensures ∙ not-false c.is_number-2.result c.if-not-is_number-2.false-raw,
    )
