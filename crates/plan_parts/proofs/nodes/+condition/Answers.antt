-- `condition` meets its contract: each arm is the case of what the first word begins. The depth left falls.
use Prim.Native.Nat.{ℕ, ◌+◌, ◌-◌, ◌≤◌, ◌<◌}
use mathlib.Core.Path.{sym, ◌∙◌}
use native.Mathlib.Omega.{arith}
use lib.ListN.{length}
use Rattle.plans.proofs.Trees.{no_depth, no_words, at_wrong, at_always, at_compared, at_not, at_half, at_two, part_small, first_words}
use Rattle.plan_parts.proofs.nodes.+condition.Goals as goal
use Rattle.plan_parts.proofs.nodes.+condition.Goals.{In_ok-first-in-Pair}

pub returns-then-left-eq0 : goal.returns-then-left-eq0
returns-then-left-eq0 t c = rw (no_depth c.args.left c.args.p.now c.if-left-eq0.true)

pub returns-then-p-eq0 : goal.returns-then-p-eq0
returns-then-p-eq0 t c = rw (no_words c.args.left c.args.p.now c.if-p-eq0.true)

pub returns-in_err-inner-in-Negated : goal.returns-in_err-inner-in-Negated
returns-in_err-inner-in-Negated t c =
    c.from_residual.ensures ∙ sym (at_not c.args.terms.now c.args.left c.args.p.now c.if-left-eq0.false c.if-p-eq0.false
    c.node_of.result c.node_of.ensures c.condition.result c.condition.ensures c.in-Negated.is ∙ rw c.in_err-inner-in-Negated.was)

pub over-requires : goal.over-requires
over-requires t c =
    part_small c.args.terms.now (c.args.left - 1) c.args.p.now 1 c.condition.result c.condition.ensures _ c.in_ok-inner-in-Negated.was (omega arith)

pub returns-in_ok-inner-in-Negated : goal.returns-in_ok-inner-in-Negated
returns-in_ok-inner-in-Negated t c =
    sym (at_not c.args.terms.now c.args.left c.args.p.now c.if-left-eq0.false c.if-p-eq0.false
    c.node_of.result c.node_of.ensures c.condition.result c.condition.ensures c.in-Negated.is
    ∙ rw (c.in_ok-inner-in-Negated.was, c.over.ensures))

pub returns-in_err-first-in-Pair : goal.returns-in_err-first-in-Pair
returns-in_err-first-in-Pair t c =
    c.from_residual-in_err-first-in-Pair.ensures ∙ sym (at_half c.args.terms.now c.args.left c.args.p.now c.if-left-eq0.false c.if-p-eq0.false
    c.node_of.result c.node_of.ensures c.condition-in-Pair.result c.condition-in-Pair.ensures c.in-Pair.is c.in_err-first-in-Pair.was)

-- the first condition of two leaves the words behind it
first_room : (t : ℕ) (c : In_ok-first-in-Pair t) → 1 + c.in_ok-first-in-Pair.first.words ≤ length c.args.p.now
first_room t c =
    first_words c.args.terms.now c.args.left c.args.p.now c.if-left-eq0.false c.if-p-eq0.false c.node_of.result c.node_of.ensures
    c.condition-in-Pair.result c.condition-in-Pair.ensures _ c.in_ok-first-in-Pair.was

pub overflow_add-skip : goal.overflow_add-skip
overflow_add-skip t c = omega (arith, first_room t (goal.at.overflow_add-skip t c).In_ok-first-in-Pair)

pub offset_bounds-p-skip : goal.offset_bounds-p-skip
offset_bounds-p-skip t c = omega (arith, first_room t (goal.at.offset_bounds-p-skip t c).In_ok-first-in-Pair)

pub slice_bounds-condition-count-in-Pair-2 : goal.slice_bounds-condition-count-in-Pair-2
slice_bounds-condition-count-in-Pair-2 t c = omega (arith, first_room t (goal.at.slice_bounds-condition-count-in-Pair-2 t c).In_ok-first-in-Pair)

pub slice_bounds-condition-start-in-Pair-2 : goal.slice_bounds-condition-start-in-Pair-2
slice_bounds-condition-start-in-Pair-2 t c = omega (arith, first_room t (goal.at.slice_bounds-condition-start-in-Pair-2 t c).In_ok-first-in-Pair)

pub returns-in_err-second-in-Pair : goal.returns-in_err-second-in-Pair
returns-in_err-second-in-Pair t c =
    c.from_residual-in_err-second-in-Pair.ensures ∙ sym (at_two c.args.terms.now c.args.left c.args.p.now c.if-left-eq0.false c.if-p-eq0.false
    c.node_of.result c.node_of.ensures c.condition-in-Pair.result c.condition-in-Pair.ensures c.in-Pair.is _ c.in_ok-first-in-Pair.was
    c.condition-in-Pair-2.result c.condition-in-Pair-2.ensures ∙ rw c.in_err-second-in-Pair.was)

pub join-requires : goal.join-requires
join-requires t c =
    let bounded : length c.args.p.now < 0x2000_0000_0000_0000 = omega arith in (
      part_small c.args.terms.now (c.args.left - 1) c.args.p.now 1 c.condition-in-Pair.result c.condition-in-Pair.ensures _
          c.in_ok-first-in-Pair.was bounded,
      part_small c.args.terms.now (c.args.left - 1) c.args.p.now (1 + c.in_ok-first-in-Pair.first.words)
          c.condition-in-Pair-2.result c.condition-in-Pair-2.ensures _ c.in_ok-second-in-Pair.was bounded,
    )

pub returns-in-Wrong : goal.returns-in-Wrong
returns-in-Wrong t c =
    sym (at_wrong c.args.terms.now c.args.left c.args.p.now c.if-left-eq0.false c.if-p-eq0.false
    c.node_of.result c.node_of.ensures c.in-Wrong.is)

pub returns-in-Always : goal.returns-in-Always
returns-in-Always t c =
    sym (at_always c.args.terms.now c.args.left c.args.p.now c.if-left-eq0.false c.if-p-eq0.false
    c.node_of.result c.node_of.ensures c.in-Always.is)

pub returns-in-Compared : goal.returns-in-Compared
returns-in-Compared t c =
    c.comparison.ensures ∙ sym (at_compared c.args.terms.now c.args.left c.args.p.now c.if-left-eq0.false c.if-p-eq0.false
    c.node_of.result c.node_of.ensures c.in-Compared.is)

pub returns-in_ok-second-in-Pair : goal.returns-in_ok-second-in-Pair
returns-in_ok-second-in-Pair t c =
    sym (at_two c.args.terms.now c.args.left c.args.p.now c.if-left-eq0.false c.if-p-eq0.false
    c.node_of.result c.node_of.ensures c.condition-in-Pair.result c.condition-in-Pair.ensures c.in-Pair.is _ c.in_ok-first-in-Pair.was
    c.condition-in-Pair-2.result c.condition-in-Pair-2.ensures ∙ rw (c.in_ok-second-in-Pair.was, c.join.ensures))
