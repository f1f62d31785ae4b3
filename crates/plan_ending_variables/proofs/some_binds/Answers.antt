-- `some_binds` meets its contract: no branch passed has the word among its terms.
use Prim.Native.Nat.{◌+◌, ◌-◌}
use mathlib.Core.Path.{◌≡◌, refl, sym, ap, ◌∙◌}
use native.Mathlib.Omega.{arith}
use lib.ListN.{drop}
use Rattle.sequences.specs.Sequences.{member}
use Rattle.plans.proofs.Chains.{any_member}
use Rattle.plans.proofs.BranchWalk.{walk_start, walk_read, walk_words, walk_next, binds_stops, binds_goes, binds_end}
use Rattle.plan_ending_variables.proofs.some_binds.Goals as goal

pub loop-init : goal.loop-init
loop-init c =
    let e : c.args.count - 0 ≡ c.args.count = omega arith in
    rw e (walk_start c.args.count c.args.p.now c.requires, refl)

pub terms-requires : goal.terms-requires
terms-requires c =
    let args = c.args in
    walk_read args.count args.p.now c.loop.at (args.count - c.loop.counter) c.loop.invariant.0 (omega arith)

pub returns-then-contains : goal.returns-then-contains
returns-then-contains c =
    let args = c.args in
    sym (c.loop.invariant.1 ∙ binds_stops args.count args.p.now c.loop.at (args.count - c.loop.counter) c.loop.invariant.0
    (omega arith) _ refl args.word c.contains.result
    (c.contains.ensures.value ∙ any_member args.word _ ∙ ap (member args.word) c.terms.ensures) c.if-contains.true)

pub branch_words-at-requires : goal.branch_words-at-requires
branch_words-at-requires c =
    let args = c.args in
    walk_read args.count args.p.now c.loop.at (args.count - c.loop.counter) c.loop.invariant.0 (omega arith)

pub overflow_add-at : goal.overflow_add-at
overflow_add-at c =
    let args = c.args in
    omega (
      arith,
      walk_words args.count args.p.now c.loop.at (args.count - c.loop.counter) c.loop.invariant.0
          (omega arith) c.branch_words-at.result c.branch_words-at.ensures,
    )

pub loop-preserved : goal.loop-preserved
loop-preserved c =
    let args = c.args in
    let e : args.count - (c.loop.counter + 1) ≡ args.count - c.loop.counter - 1 = omega arith in
    rw e (
      walk_next args.count args.p.now c.loop.at (args.count - c.loop.counter) c.loop.invariant.0
          (omega arith) c.branch_words-at.result c.branch_words-at.ensures,
      c.loop.invariant.1 ∙ binds_goes args.count args.p.now c.loop.at (args.count - c.loop.counter) c.loop.invariant.0
          (omega arith) c.branch_words-at.result c.branch_words-at.ensures
          args.word c.contains.result (c.contains.ensures.value ∙ any_member args.word _ ∙ ap (member args.word) c.terms.ensures) c.if-contains.false,
    )

pub returns : goal.returns
returns c =
    let args = c.args in
    sym (c.loop.invariant.1 ∙ binds_end (drop c.loop.at args.p.now) (args.count - c.loop.counter) args.word (omega arith))
