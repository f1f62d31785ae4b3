-- `tag_end` meets its contract. The invariant: where all parts end is where those from a place on do.
use borrow.Author.Tests.{not-true, not-false}
use Rattle.token_names.proofs.Dotting.{tag_over, tag_on, tag_stop}
use mathlib.Core.Path.{◌≡◌, sym, ◌∙◌}
use lib.ListN.{length}
use native.Mathlib.Omega.{arith}
use Rattle.token_names.proofs.tag_end.Goals as goal

pub returns-then-not-in_tag : goal.returns-then-not-in_tag
returns-then-not-in_tag c =
    let at = c.loop-at.at in
    let t = sym c.in_tag.ensures ∙ not-true c.in_tag.result c.if-not-in_tag.true-raw in
    (sym (c.loop-at.invariant ∙ tag_stop c.args.points.now at at (omega arith) t), omega arith, omega arith)

pub loop-at-preserved : goal.loop-at-preserved
loop-at-preserved c =
    let at = c.loop-at.at in
    let t = sym c.in_tag.ensures ∙ not-false c.in_tag.result c.if-not-in_tag.false-raw in
    c.loop-at.invariant ∙ tag_on c.args.points.now at at (omega arith) t

pub returns : goal.returns
returns c =
    let at = c.loop-at.at in
    let l : length c.args.points.now ≡ at = omega (arith, c.loop-at.auto.at-end, c.loop-at-test.false) in
    (l ∙ sym (c.loop-at.invariant ∙ tag_over c.args.points.now at at (omega (arith, l))), omega arith, omega arith)
