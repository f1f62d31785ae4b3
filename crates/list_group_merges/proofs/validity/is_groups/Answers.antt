-- `is_groups` meets its contract: the records passed are right and ascend.
use native.Mathlib.Omega.{arith}
use mathlib.Core.Path.{sym, ◌∙◌}
use mathlib.Core.Bool.{true, false}
use borrow.Author.Tests.{not-true, not-false}
use Rattle.list_group_merges.proofs.GroupTesting.{tested_start, tested_fits, tested_wrong}
use Rattle.list_group_merges.proofs.GroupTesting.{tested_late, tested_next, tested_end, not_whole, by_records}
use Rattle.list_group_merges.proofs.validity.is_groups.Goals as goal

pub returns-then-list-w-ne0 : goal.returns-then-list-w-ne0
returns-then-list-w-ne0 c =
    λ vs m e. not_whole c.args.g c.args.list.now vs m e c.if-list-w-ne0.true

pub loop-at-init : goal.loop-at-init
loop-at-init c =
    tested_start c.args.g c.args.list.now c.if-list-w-ne0.false

pub record_right-requires : goal.record_right-requires
record_right-requires c =
    (c.requires, tested_fits c.loop-at.invariant (omega arith))

pub returns-then-not-record_right : goal.returns-then-not-record_right
returns-then-not-record_right c =
    let v = sym c.record_right.ensures ∙ not-true c.record_right.result c.if-not-record_right.true-raw in
    λ vs m e. by_records c.args.g c.args.list.now vs m e false c.if-list-w-ne0.false (tested_wrong c.loop-at.invariant (omega arith) v)

pub follows-requires : goal.follows-requires
follows-requires c =
    (c.requires, tested_fits c.loop-at.invariant (omega arith), c.loop-at.invariant.first)

pub returns-then-not-follows : goal.returns-then-not-follows
returns-then-not-follows c =
    let v = sym c.follows.ensures ∙ not-true c.follows.result c.if-not-follows.true-raw in
    λ vs m e. by_records c.args.g c.args.list.now vs m e false c.if-list-w-ne0.false (tested_late c.loop-at.invariant (omega arith) v)

pub overflow_add-at : goal.overflow_add-at
overflow_add-at c =
    let f = tested_fits c.loop-at.invariant (omega arith) in
    omega arith

pub loop-at-smaller : goal.loop-at-smaller
loop-at-smaller c =
    let f = tested_fits c.loop-at.invariant (omega arith) in
    omega arith

pub loop-at-preserved : goal.loop-at-preserved
loop-at-preserved c =
    let r = sym c.record_right.ensures
    ∙ not-false c.record_right.result c.if-not-record_right.false-raw in
    let v = sym c.follows.ensures ∙ not-false c.follows.result c.if-not-follows.false-raw in
    tested_next c.loop-at.invariant (omega arith) r v

pub returns : goal.returns
returns c =
    λ vs m e. by_records c.args.g c.args.list.now vs m e true c.if-list-w-ne0.false (tested_end c.loop-at.invariant (omega arith))
