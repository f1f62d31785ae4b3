-- `index_operands` meets its contract. The invariant: those before a place are found.
use Prim.Native.Nat.{◌-◌}
use native.Mathlib.Omega.{arith}
use mathlib.Core.Path.{refl, ◌∙◌}
use lib.ListN.{length, take, drop, length-set}
use Rattle.sequences.proofs.Walking.{rest_length}
use Rattle.conditions.proofs.Places.{left_fits, lefts_next, lefts_whole}
use Rattle.condition_values.proofs.operands.index_operands.Goals as goal

pub loop-at-init : goal.loop-at-init
loop-at-init c = (refl, refl)

pub overflow_cast-lefts : goal.overflow_cast-lefts
overflow_cast-lefts c =
    omega (
      arith,
      c.requires.0,
      c.left_words.ensures,
      left_fits (take (length c.args.plan.now - c.loop-at.at) (drop c.loop-at.at c.args.plan.now)),
      rest_length c.args.plan.now c.loop-at.at,
    )

pub bounds-lefts-at : goal.bounds-lefts-at
bounds-lefts-at c = omega (arith, c.requires.1)

pub loop-at-preserved : goal.loop-at-preserved
loop-at-preserved c =
    let i = c.loop-at.invariant in (
      (simp length-set) ∙ i.0,
      lefts_next c.args.plan.now c.loop-at.lefts c.loop-at.at (omega arith) (omega (arith, c.requires.1, i.0)) i.1 c.left_words.ensures,
    )

pub shape_of-lefts : goal.shape_of-lefts
shape_of-lefts c = c.loop-at.invariant.0

pub returns : goal.returns
returns c =
    lefts_whole c.args.plan.now c.loop-at.lefts c.loop-at.at (omega (arith, c.loop-at-test.false)) (omega arith) c.loop-at.invariant.1
