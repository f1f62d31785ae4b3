-- `merge_registers` meets its contract: test 12 of both lists, 14, and then they are merged.
use Prim.Native.Nat.{ℕ}
use mathlib.Core.Path.{sym}
use mathlib.Core.Bool.{Bool}
use lib.ListN.{take}
use lib.Seq.{length-take-le}
use Rattle.plans.specs.Endings.{registers}
use Rattle.merge_lists.specs.Answering.{both_right}
use Rattle.merge_endings.proofs.Tested.{goes_on_fact, refuses, kept_right_lem, list_sixteen, lists_wrong, registers_no_room, registers_merged}
use Rattle.merge_endings.proofs.merge_registers.Goals as goal
use Rattle.merge_endings.proofs.merge_registers.Goals.{Start}

-- test 12 of both lists
abbrev right : Start → ℕ → Bool
right s v = both_right (registers v) (take s.args.given s.args.kept.now) s.args.list.now

pub slice_bounds-are_registers-end-2 : goal.slice_bounds-are_registers-end-2
slice_bounds-are_registers-end-2 c =
    sym (length-take-le c.args.given c.args.kept.now c.requires)

pub returns-then-not-are_registers : goal.returns-then-not-are_registers
returns-then-not-are_registers c =
    λ v plan a. lists_wrong _ a c.requires
    (refuses (right (goal.at.returns-then-not-are_registers c).Start v) (c.are_registers.ensures v) c.if-not-are_registers.true-raw)

pub returns-then-kept-lt-REGISTERS : goal.returns-then-kept-lt-REGISTERS
returns-then-kept-lt-REGISTERS c =
    λ v plan a.
    let p = goes_on_fact (right (goal.at.returns-then-kept-lt-REGISTERS c).Start v) (c.are_registers.ensures v) c.if-not-are_registers.false-raw in
    registers_no_room _ a c.requires p c.if-kept-lt-REGISTERS.true

pub merge_registers-requires : goal.merge_registers-requires
merge_registers-requires c = let front = take c.args.given c.args.kept.now in
    let p = goes_on_fact (right (goal.at.merge_registers-requires c).Start 0) (c.are_registers.ensures 0) c.if-not-are_registers.false-raw in
    record {
      list_len = (list_sixteen 0 front c.args.list.now p, c.if-kept-lt-REGISTERS.false);
      given_in_bounds =
          (c.requires, kept_right_lem 0 front c.args.list.now p);
    }

pub returns : goal.returns
returns c =
    λ v plan a.
    let p = goes_on_fact (right (goal.at.returns c).Start v) (c.are_registers.ensures v)
    c.if-not-are_registers.false-raw in
    registers_merged _ a c.requires p c.if-kept-lt-REGISTERS.false c.merge_registers.ensures
