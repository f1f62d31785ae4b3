-- `branches` meets its contract: the first branch, and the rest from the word after it. The count falls.
use Prim.Native.Nat.{ℕ, ◌≤◌}
use mathlib.Core.Path.{sym, ◌∙◌}
use native.Mathlib.Omega.{arith}
use lib.ListN.{length}
use Rattle.plan_tests.proofs.Parts.{no_branches, branches_broken, branches_two, first_words, rest_words}
use Rattle.plan_tests.proofs.branches.+branches.Goals as goal
use Rattle.plan_tests.proofs.branches.+branches.Goals.{In_ok-first}

-- the first branch leaves the words behind it
first_room : (t : ℕ) (c : In_ok-first t) → c.in_ok-first.first.words ≤ length c.args.p.now
first_room t c = first_words c.args.count c.args.p.now c.if-count-eq0.false c.branch-p.result c.branch-p.ensures _ c.in_ok-first.was

pub returns-then-count-eq0 : goal.returns-then-count-eq0
returns-then-count-eq0 t c = sym (no_branches c.args.count c.args.p.now c.if-count-eq0.true)

pub returns-in_err-first : goal.returns-in_err-first
returns-in_err-first t c =
    c.from_residual.ensures ∙ sym (branches_broken c.args.count c.args.p.now c.if-count-eq0.false c.branch-p.result c.branch-p.ensures c.in_err-first.was)

pub offset_bounds-p-first : goal.offset_bounds-p-first
offset_bounds-p-first t c = omega (arith, first_room t c)

pub slice_bounds-branches-count : goal.slice_bounds-branches-count
slice_bounds-branches-count t c = omega (arith, first_room t c)

pub slice_bounds-branches-start : goal.slice_bounds-branches-start
slice_bounds-branches-start t c = omega (arith, first_room t c)

pub returns-in_err-rest : goal.returns-in_err-rest
returns-in_err-rest t c =
    c.from_residual-in_err-rest.ensures ∙
    sym (branches_two c.args.count c.args.p.now c.if-count-eq0.false c.branch-p.result c.branch-p.ensures _ c.in_ok-first.was
    c.branches.result c.branches.ensures ∙ rw c.in_err-rest.was)

pub overflow_add-result : goal.overflow_add-result
overflow_add-result t c =
    omega (
      arith,
      rest_words c.args.count c.args.p.now c.if-count-eq0.false c.branch-p.result c.branch-p.ensures _ c.in_ok-first.was
          c.branches.result c.branches.ensures _ c.in_ok-rest.was,
    )

pub returns-then-first : goal.returns-then-first
returns-then-first t c =
    sym (branches_two c.args.count c.args.p.now c.if-count-eq0.false c.branch-p.result c.branch-p.ensures _ c.in_ok-first.was
    c.branches.result c.branches.ensures ∙ rw (c.in_ok-rest.was, c.if-first.true))

pub returns-else-first : goal.returns-else-first
returns-else-first t c =
    sym (branches_two c.args.count c.args.p.now c.if-count-eq0.false c.branch-p.result c.branch-p.ensures _ c.in_ok-first.was
    c.branches.result c.branches.ensures ∙ rw (c.in_ok-rest.was, c.if-first.false))
