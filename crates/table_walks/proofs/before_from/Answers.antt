-- `table_walks::before_from` meets its contract: one more than the second key where the columns after it say yes, else the second key.
use Rattle.std.proofs.Common.{◌+◌, ◌%◌, ltb, ap, ◌∙◌, ap₂, arith}
use Rattle.table_walks.proofs.Columns.{longs, from_bool-few, sum_says}
use Rattle.table_walks.proofs.before_from.Goals as goal

pub overflow_add-result : goal.overflow_add-result
overflow_add-result c =
    let sum = c.wrapping_add_u64-sum.result in
    let a = c.args in
    omega (arith, c.from-2.ensures, c.from-3.ensures, from_bool-few (ltb a.earlier sum), from_bool-few (ltb sum a.later))

pub returns : goal.returns
returns c =
    let a = c.args in
    ap₂ (λ u v. ltb 0 (u + v)) c.from-2.ensures c.from-3.ensures
    ∙ sum_says a.earlier a.later c.wrapping_add_u64-sum.result a.after (omega arith) (omega arith)
    (c.wrapping_add_u64-sum.ensures.value ∙ ap (λ k. (a.later + k) % longs) c.from.ensures)
