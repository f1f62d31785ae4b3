-- `branch_words` meets its contract: the words before the condition, and the condition's.
use mathlib.Core.Path.{sym, ◌∙◌}
use native.Mathlib.Omega.{arith}
use Rattle.plans.specs.Conditions.{read_condition, most_depth}
use Rattle.plans.proofs.Trees.{unread_words, tree_words_read}
use Rattle.plans.proofs.BranchRead.{branch_in_lem, branch_room, lent_condition, words_in_lem}
use Rattle.plan_parts.proofs.branches.branch_words.Goals as goal

pub slice_bounds-condition-count : goal.slice_bounds-condition-count
slice_bounds-condition-count c =
    let args = c.args in
    let pre = c.requires in
    omega (arith, branch_room args.p.now pre c.pattern_count.result c.pattern_count.ensures.0)

pub slice_bounds-condition-start : goal.slice_bounds-condition-start
slice_bounds-condition-start c =
    let args = c.args in
    let pre = c.requires in
    omega (arith, branch_room args.p.now pre c.pattern_count.result c.pattern_count.ensures.0)

pub overflow_add-result : goal.overflow_add-result
overflow_add-result c =
    let p = c.args.p.now in
    let pre = c.requires in
    omega (
      arith,
      (branch_in_lem p pre).fit,
      words_in_lem p pre c.pattern_count.result c.pattern_count.ensures.0,
      tree_words_read _ (read_condition most_depth (lent_condition c.pattern_count.result p)) _ (sym c.condition.ensures ∙ c.in-Some.is),
    )

pub returns-in-None : goal.returns-in-None
returns-in-None c =
    let p = c.args.p.now in
    let pre = c.requires in
    omega (
      arith,
      words_in_lem p pre c.pattern_count.result c.pattern_count.ensures.0,
      unread_words _ (read_condition most_depth (lent_condition c.pattern_count.result p)) (sym c.condition.ensures ∙ c.in-None.is),
    )

pub returns-in-Some : goal.returns-in-Some
returns-in-Some c =
    let p = c.args.p.now in
    let pre = c.requires in
    omega (
      arith,
      words_in_lem p pre c.pattern_count.result c.pattern_count.ensures.0,
      tree_words_read _ (read_condition most_depth (lent_condition c.pattern_count.result p)) _ (sym c.condition.ensures ∙ c.in-Some.is),
    )
