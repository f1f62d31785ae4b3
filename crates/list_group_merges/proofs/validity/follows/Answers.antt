-- `follows` meets its contract.
use Prim.Native.Nat.{◌+◌, ◌-◌}
use mathlib.Core.Path.{◌∙◌}
use lib.ListN.{take, drop}
use borrow.Author.Tests.{eq-eqb}
use Rattle.list_groups.specs.Keys.{keys_first}
use Rattle.lists.proofs.SideCases.{is_before, is_same, is_after}
use Rattle.list_groups.proofs.KeySides.{not_first}
use Rattle.list_group_merges.proofs.GroupTesting.{follows_lent}
use Rattle.list_group_merges.proofs.validity.follows.Goals as goal

pub returns-then-at-eq0 : goal.returns-then-at-eq0
returns-then-at-eq0 c = rw (eq-eqb c.args.at 0 c.if-at-eq0.true)

pub overflow_sub-before : goal.overflow_sub-before
overflow_sub-before c =
    not_first c.args.at (c.args.g + 8) c.requires.2 c.if-at-eq0.false

pub returns-in-Less : goal.returns-in-Less
returns-in-Less c =
    let f = c.args.at - (c.args.g + 8) in
    is_before keys_first (take (f + c.args.g - f) (drop f c.args.list.now))
    (take (c.args.at + c.args.g - c.args.at) (drop c.args.at c.args.list.now)) c.by_group.result
    c.by_group.ensures c.in-Less.is
    ∙ follows_lent c.args.g c.args.list.now c.args.at c.if-at-eq0.false

pub returns-in-Equal : goal.returns-in-Equal
returns-in-Equal c =
    let f = c.args.at - (c.args.g + 8) in
    is_same keys_first (take (f + c.args.g - f) (drop f c.args.list.now))
    (take (c.args.at + c.args.g - c.args.at) (drop c.args.at c.args.list.now)) c.by_group.result
    c.by_group.ensures c.in-Equal.is
    ∙ follows_lent c.args.g c.args.list.now c.args.at c.if-at-eq0.false

pub returns-in-Greater : goal.returns-in-Greater
returns-in-Greater c =
    let f = c.args.at - (c.args.g + 8) in
    is_after keys_first (take (f + c.args.g - f) (drop f c.args.list.now))
    (take (c.args.at + c.args.g - c.args.at) (drop c.args.at c.args.list.now)) c.by_group.result
    c.by_group.ensures c.in-Greater.is
    ∙ follows_lent c.args.g c.args.list.now c.args.at c.if-at-eq0.false
