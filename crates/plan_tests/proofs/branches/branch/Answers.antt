-- `branch` meets its contract: the cases of its first word, its length, its condition and its nodes.
use Prim.Native.Nat.{ℕ, ◌+◌, ◌*◌}
use mathlib.Core.Path.{◌≡◌, sym, ◌∙◌, ap}
use mathlib.Core.List.{List}
use native.Mathlib.Omega.{arith}
use borrow.Author.Tests.{le-leb, lt-leb}
use Rattle.sequences.specs.Sequences.{all}
use Rattle.std.specs.Prelude.{Option}
use Rattle.plans.specs.declared.Tree.{Tree}
use Rattle.plans.specs.Branches.{pattern_width, read_branch, term_right, branch_right}
use Rattle.plans.proofs.BranchRead.{lent_terms}
use Rattle.plan_tests.specs.Testing.{part_of}
use Rattle.plan_tests.proofs.Parts.{branch_part, branch_none, branch_short, branch_with, condition_words_lem}
use Rattle.plan_tests.proofs.branches.branch.Goals as goal
use Rattle.plan_tests.proofs.branches.branch.Goals.{After-condition}

abbrev words : After-condition → List ℕ
words l = l.args.p.now

branch_read : (l : After-condition) {tree : Option Tree} → l.condition.result ≡ tree → let n = l.pattern_count-n.result in
    part_of branch_right (read_branch (words l)) ≡ branch_part (1 + pattern_width * n) (all term_right (lent_terms n (words l))) tree
branch_read l is =
    branch_with (words l) l.pattern_count-n.result l.pattern_count-n.ensures.0 l.if-n-eq0.false l.if-p-at.false l.condition.result l.condition.ensures
    ∙ ap (λ tree. branch_part (1 + pattern_width * l.pattern_count-n.result) (all term_right (lent_terms l.pattern_count-n.result (words l))) tree) is

pub returns-then-n-eq0 : goal.returns-then-n-eq0
returns-then-n-eq0 c =
    let args = c.args in
    rw (branch_none args.p.now c.pattern_count-n.result c.pattern_count-n.ensures.0 c.if-n-eq0.true)

pub returns-then-p-at : goal.returns-then-p-at
returns-then-p-at c =
    let args = c.args in
    rw (branch_short args.p.now c.pattern_count-n.result c.pattern_count-n.ensures.0 c.if-n-eq0.false c.if-p-at.true)

pub returns-in_err-tree : goal.returns-in_err-tree
returns-in_err-tree c = c.from_residual.ensures ∙ sym (branch_read (goal.at.returns-in_err-tree c).After-condition c.in_err-tree.was)

pub returns-then-tree-gt-MOST_NODES : goal.returns-then-tree-gt-MOST_NODES
returns-then-tree-gt-MOST_NODES c =
    sym (branch_read (goal.at.returns-then-tree-gt-MOST_NODES c).After-condition c.in_ok-tree.was ∙ rw (lt-leb _ _ c.if-tree-gt-MOST_NODES.true))

pub overflow_add-result : goal.overflow_add-result
overflow_add-result c =
    omega (
      arith,
      condition_words_lem (words (goal.at.overflow_add-result c).After-condition) c.pattern_count-n.result c.pattern_count-n.ensures.0
          c.if-n-eq0.false c.if-p-at.false c.condition.result
          c.condition.ensures _ c.in_ok-tree.was,
    )

pub returns-then-all_right : goal.returns-then-all_right
returns-then-all_right c =
    sym (branch_read (goal.at.returns-then-all_right c).After-condition c.in_ok-tree.was
    ∙ rw (le-leb _ _ c.if-tree-gt-MOST_NODES.false, ← c.all_right.ensures, c.if-all_right.true))

pub returns-else-all_right : goal.returns-else-all_right
returns-else-all_right c =
    sym (branch_read (goal.at.returns-else-all_right c).After-condition c.in_ok-tree.was
    ∙ rw (le-leb _ _ c.if-tree-gt-MOST_NODES.false, ← c.all_right.ensures, c.if-all_right.false))
