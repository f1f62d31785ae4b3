-- `branches_words` meets its contract: the words passed and those of the branches left are the words of all.
use Prim.Native.Nat.{◌+◌, ◌-◌}
use mathlib.Core.Path.{◌≡◌}
use native.Mathlib.Omega.{arith}
use Rattle.plans.proofs.BranchWalk.{walk_start, walk_end, walk_read, walk_words, walk_next}
use Rattle.plan_parts.proofs.branches.branches_words.Goals as goal

pub loop-init : goal.loop-init
loop-init c =
    let e : c.args.count - 0 ≡ c.args.count = omega arith in
    rw e (walk_start c.args.count c.args.p.now c.requires)

pub branch_words-at-requires : goal.branch_words-at-requires
branch_words-at-requires c =
    let args = c.args in
    walk_read args.count args.p.now c.loop.at (args.count - c.loop.counter) c.loop.invariant (omega arith)

pub overflow_add-at : goal.overflow_add-at
overflow_add-at c =
    let args = c.args in
    omega (
      arith,
      walk_words args.count args.p.now c.loop.at (args.count - c.loop.counter) c.loop.invariant
          (omega arith) c.branch_words-at.result c.branch_words-at.ensures,
    )

pub loop-preserved : goal.loop-preserved
loop-preserved c =
    let args = c.args in
    let e : args.count - (c.loop.counter + 1) ≡ args.count - c.loop.counter - 1 = omega arith in
    rw e (walk_next args.count args.p.now c.loop.at (args.count - c.loop.counter) c.loop.invariant
    (omega arith) c.branch_words-at.result c.branch_words-at.ensures)

pub returns : goal.returns
returns c =
    let args = c.args in
    walk_end args.count args.p.now c.loop.at (args.count - c.loop.counter) c.loop.invariant (omega arith)
