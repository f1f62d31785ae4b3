-- `merge_groups` meets its contract: test 12 of both lists, and then they are merged, or 13 or 14 refuses them.
use Prim.Native.Nat.{ℕ}
use mathlib.Core.Path.{sym}
use mathlib.Core.Bool.{Bool}
use mathlib.Core.List.{List}
use lib.ListN.{take}
use lib.Seq.{length-take-le}
use Rattle.plans.specs.Endings.{group}
use Rattle.merge_lists.specs.Answering.{both_right}
use Rattle.merge_endings.proofs.Tested.{goes_on_fact, refuses, each_right, lists_wrong, groups_merged}
use Rattle.merge_endings.proofs.merge_groups.Goals as goal
use Rattle.merge_endings.proofs.merge_groups.Goals.{Start}

-- test 12 of both lists
abbrev right : Start → List ℕ → ℕ → Bool
right s vs m = both_right (group vs m) (take s.args.given s.args.kept.now) s.args.list.now

pub slice_bounds-are_groups-end-2 : goal.slice_bounds-are_groups-end-2
slice_bounds-are_groups-end-2 c =
    sym (length-take-le c.args.given c.args.kept.now c.requires.1)

pub returns-then-not-are_groups : goal.returns-then-not-are_groups
returns-then-not-are_groups c =
    λ vs m e plan a. lists_wrong _ a c.requires.1
    (refuses (right (goal.at.returns-then-not-are_groups c).Start vs m) (c.are_groups.ensures vs m e) c.if-not-are_groups.true-raw)

pub merge_groups-requires : goal.merge_groups-requires
merge_groups-requires c = (
  c.requires.0,
  c.requires.1,
  λ vs m e.
      each_right (group vs m) (take c.args.given c.args.kept.now) c.args.list.now
      (goes_on_fact (right (goal.at.merge_groups-requires c).Start vs m) (c.are_groups.ensures vs m e) c.if-not-are_groups.false-raw),
)

pub returns : goal.returns
returns c =
    λ vs m e plan a.
    let p = goes_on_fact (right (goal.at.returns c).Start vs m) (c.are_groups.ensures vs m e)
    c.if-not-are_groups.false-raw in
    let g = c.merge_groups.ensures vs m e in
    rw c.written.ensures (groups_merged _ a c.requires.1 p g.0 g.1)
