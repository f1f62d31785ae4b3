-- `pick` meets its contract.
use Prim.Native.Nat.{◌+◌}
use native.Mathlib.Omega.{arith}
use mathlib.Core.Path.{sym, ◌∙◌}
use Rattle.list_groups.proofs.KeySides.{not_first}
use Rattle.list_group_merges.proofs.WalkSteps.{pick_none}
use Rattle.list_group_merges.proofs.PuttingRecords.{pick_lent}
use Rattle.list_group_merges.proofs.merge_backwards.pick.Goals as goal

pub returns-then-x-eq0 : goal.returns-then-x-eq0
returns-then-x-eq0 c =
    sym (pick_none c.args.g c.args.kept.now c.args.x c.args.list.now c.args.y c.if-x-eq0.true)

pub overflow_sub-old : goal.overflow_sub-old
overflow_sub-old c =
    not_first c.args.x (c.args.g + 8) c.requires.2 c.if-x-eq0.false

pub slice_bounds-by_group-end : goal.slice_bounds-by_group-end
slice_bounds-by_group-end c =
    let f = not_first c.args.x (c.args.g + 8) c.requires.2 c.if-x-eq0.false in
    omega arith

pub returns : goal.returns
returns c =
    c.by_group.ensures ∙ pick_lent c.args.g c.args.kept.now c.args.x c.args.list.now c.args.y c.if-x-eq0.false
