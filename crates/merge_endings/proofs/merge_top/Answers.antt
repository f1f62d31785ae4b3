-- `merge_top` meets its contract: test 12 of both lists, 14, and then the lists are merged.
use Prim.Native.Nat.{ℕ}
use mathlib.Core.Path.{◌≡◌, sym}
use mathlib.Core.Bool.{Bool, true}
use mathlib.Core.List.{List}
use lib.Dec.{leb}
use lib.ListN.{length, take}
use lib.Seq.{length-take-le}
use borrow.Author.Tests.{leb-true}
use Rattle.plans.specs.Endings.{Ending, top}
use Rattle.lists.specs.Gathering.{merged}
use Rattle.list_best.specs.BestLists.{BestList, Mergeable}
use Rattle.list_best.proofs.RightLists.{right_best, mergeable}
use Rattle.merge_lists.specs.Answering.{both_right}
use Rattle.merge_endings.proofs.Tested.{goes_on_fact, refuses, each_right, lists_wrong, top_no_room, top_merged}
use Rattle.merge_endings.proofs.merge_top.Goals as goal
use Rattle.merge_endings.proofs.merge_top.Goals.{Start}

-- tests 12 and 14, and what they leave
module _ (s : Start) where
  abbrev ending : Ending
  ending = top s.args.k s.args.vars.now s.args.keys.now

  abbrev front : List ℕ
  front = take s.args.given s.args.kept.now

  abbrev right : Bool
  right = both_right ending front s.args.list.now

  abbrev room : Bool
  room = leb (length (merged ending front s.args.list.now)) (length s.args.kept.now)

  module _ (p : right ≡ true) where
    kept_best : BestList s.args.k s.args.vars.now s.args.keys.now front
    kept_best = right_best _ _ _ _ (each_right ending front s.args.list.now p).0

    list_best : BestList s.args.k s.args.vars.now s.args.keys.now s.args.list.now
    list_best = right_best _ _ _ _ (each_right ending front s.args.list.now p).1

    may_merge : room ≡ true
        → Mergeable s.args.k s.args.vars.now s.args.keys.now s.args.kept.now s.args.given s.args.list.now
    may_merge r =
        let each = each_right ending front s.args.list.now p in
        mergeable s.requires.0 s.requires.1 each.0 each.1
        (leb-true (length (merged ending front s.args.list.now)) (length s.args.kept.now) r)

pub slice_bounds-are_best-end-2 : goal.slice_bounds-are_best-end-2
slice_bounds-are_best-end-2 c =
    sym (length-take-le c.args.given c.args.kept.now c.requires.1)

pub returns-then-not-are_best : goal.returns-then-not-are_best
returns-then-not-are_best c =
    λ plan a. lists_wrong _ a c.requires.1 (refuses (right (goal.at.returns-then-not-are_best c).Start) c.are_best.ensures c.if-not-are_best.true-raw)

pub has_best_room-requires : goal.has_best_room-requires
has_best_room-requires c =
    let p = goes_on_fact (right (goal.at.has_best_room-requires c).Start) c.are_best.ensures c.if-not-are_best.false-raw in
    (c.requires.0.some, c.requires.0.narrow, c.requires.0.few, c.requires.1, (list_best (goal.at.has_best_room-requires c).Start p).whole)

pub returns-then-not-has_best_room : goal.returns-then-not-has_best_room
returns-then-not-has_best_room c =
    let p = goes_on_fact (right (goal.at.returns-then-not-has_best_room c).Start) c.are_best.ensures c.if-not-are_best.false-raw in
    let e = c.has_best_room.ensures c.args.keys.now (kept_best (goal.at.returns-then-not-has_best_room c).Start p) in
    λ plan a. top_no_room _ a c.requires.1 p (refuses (room (goal.at.returns-then-not-has_best_room c).Start) e c.if-not-has_best_room.true-raw)

pub merge_best-requires : goal.merge_best-requires
merge_best-requires c =
    let p = goes_on_fact (right (goal.at.merge_best-requires c).Start) c.are_best.ensures c.if-not-are_best.false-raw in
    let e = c.has_best_room.ensures c.args.keys.now (kept_best (goal.at.merge_best-requires c).Start p) in
    may_merge (goal.at.merge_best-requires c).Start p (goes_on_fact (room (goal.at.merge_best-requires c).Start) e c.if-not-has_best_room.false-raw)

pub returns : goal.returns
returns c =
    let p = goes_on_fact (right (goal.at.returns c).Start) c.are_best.ensures
    c.if-not-are_best.false-raw in
    let e = c.has_best_room.ensures c.args.keys.now (kept_best (goal.at.returns c).Start p) in
    λ plan a. top_merged _ a c.requires.1 p (goes_on_fact (room (goal.at.returns c).Start) e c.if-not-has_best_room.false-raw) c.merge_best.ensures
