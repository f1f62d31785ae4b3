-- `record_right` meets its contract.
use mathlib.Core.Path.{sym, ◌∙◌, ap₂}
use borrow.Author.Tests.{not-true, not-false}
use Rattle.list_group_merges.proofs.GroupTesting.{right_parts}
use Rattle.list_group_merges.specs.GroupTests.{totals_right}
use Rattle.list_group_merges.proofs.validity.record_right.Goals as goal

pub returns-then-not-is_values : goal.returns-then-not-is_values
returns-then-not-is_values c =
    let v = sym c.is_values.ensures ∙ not-true c.is_values.result c.if-not-is_values.true-raw in
    sym (right_parts c.args.g c.args.list.now c.args.at c.requires.1 ∙ rw v)

pub returns : goal.returns
returns c =
    let v = sym c.is_values.ensures ∙ not-false c.is_values.result c.if-not-is_values.false-raw in
    c.totals_right.ensures ∙ ap₂ totals_right c.least_rows-least.ensures c.read_totals.ensures
    ∙ sym (right_parts c.args.g c.args.list.now c.args.at c.requires.1 ∙ rw v)
