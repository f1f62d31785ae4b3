-- `state_walks::upper_right` meets its contract. The loop's invariant: the levels before `level` are right, the array holds what they bind, and
-- their ends are found.
use Prim.Native.Nat.{◌+◌}
use mathlib.Core.Path.{◌≡◌, refl, sym, ◌∙◌, subst}
use native.Mathlib.Omega.{arith}
use lib.ListN.{length-set}
use Rattle.sequences.proofs.Booleans.{absurd_true}
use Rattle.tables.specs.Tables.{Section, section_of}
use Rattle.step_cursors.specs.Held.{EndsAbove}
use Rattle.state_saving.proofs.WalkedLevels.{Walked, walked_none, walked_next, walked_fails, ends_next}
use Rattle.state_walks.proofs.upper_right.Goals as goal
use Rattle.state_walks.proofs.upper_right.Goals.{Start}

abbrev lent : Start → Section
lent s = section_of s.args.rows.now s.args.pos.now s.args.osp.now s.args.year

pub loop-level-init : goal.loop-level-init
loop-level-init c =
    (walked_none (lent (goal.at.loop-level-init c).Start) c.args.terms.now c.args.c.upper, refl, λ l h. absurd (omega (arith, h)))

pub bounds-upper-level : goal.bounds-upper-level
bounds-upper-level c = omega (arith, c.requires.inside)

pub level_end-requires : goal.level_end-requires
level_end-requires c = record { right = c.requires.right; inside = omega (arith, c.requires.inside) }

pub returns-in_err-ends : goal.returns-in_err-ends
returns-in_err-ends c =
    let fails = walked_fails (lent (goal.at.returns-in_err-ends c).Start) c.args.terms.now c.args.c.upper c.loop-level.level c.loop-level.bound
    c.loop-level.invariant.0 (sym c.in_err-ends.ensures.right_value) c.args.c.level (omega arith) in
    rw c.from_residual.ensures (record { right_value = sym fails; bound_after = λ e. absurd_true e refl; ends = tt })

pub loop-level-preserved : goal.loop-level-preserved
loop-level-preserved c =
    let upper = c.args.c.upper in
    let passed = sym c.in_ok-ends.ensures.right_value in
    let next = walked_next (lent (goal.at.loop-level-preserved c).Start) c.args.terms.now upper c.loop-level.level c.loop-level.bound
    c.loop-level.invariant.0 passed in
    let k = c.loop-level.invariant in (
      subst (Walked (lent (goal.at.loop-level-preserved c).Start) c.args.terms.now upper (c.loop-level.level + 1)) (sym c.level_end.ensures.bound_after) next,
      (simp length-set) ∙ k.1,
      ends_next (lent (goal.at.loop-level-preserved c).Start) c.args.terms.now upper c.loop-level.level c.loop-level.bound k.0 c.loop-level.ends _
          (omega (arith, k.1, c.requires.inside)) c.in_ok-ends.ensures.ends k.2,
    )

pub returns : goal.returns
returns c = let e : c.loop-level.level ≡ c.args.c.level = omega arith in
    let w = subst (λ n. Walked (lent (goal.at.returns c).Start) c.args.terms.now c.args.c.upper n c.loop-level.bound) e c.loop-level.invariant.0 in
    let k = subst (λ n. EndsAbove (lent (goal.at.returns c).Start) c.args.terms.now c.args.c.upper c.loop-level.ends n) e c.loop-level.invariant.2 in
    record { right_value = sym w.right; bound_after = λ h. w.bound; ends = (c.loop-level.invariant.1, k) }
