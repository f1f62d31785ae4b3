-- `least_output` meets its contract: by the kind of the ending, and the words of k rows are few.
use native.Mathlib.Omega.{arith}
use mathlib.Core.Path.{sym, ◌∙◌}
use Rattle.plans.specs.Endings.{ending_at}
use Rattle.plans.proofs.EndingRead.{some_kind}
use Rattle.list_limits.proofs.Least.{least_rows_lem, least_top, least_group, least_registers, top_fits}
use Rattle.list_limits.proofs.sizes.least_output.Goals as goal

pub best_count-requires : goal.best_count-requires
best_count-requires c =
    (c.requires, sym c.ending_kind.ensures ∙ c.in-Top.is)

pub overflow_mul-result : goal.overflow_mul-result
overflow_mul-result c =
    let f = top_fits c.args.ending.now c.variables-width.result.now c.best_count.result c.variables-width.ensures c.best_count.ensures
    (sym c.ending_kind.ensures ∙ c.in-Top.is) in
    omega arith

pub returns-in-Rows : goal.returns-in-Rows
returns-in-Rows c =
    least_rows_lem (ending_at c.args.ending.now) c.variables-width.result.now c.variables-width.ensures
    (sym c.ending_kind.ensures ∙ c.in-Rows.is)

pub returns-in-Top : goal.returns-in-Top
returns-in-Top c =
    least_top (ending_at c.args.ending.now) c.variables-width.result.now c.variables-width.ensures
    (sym c.ending_kind.ensures ∙ c.in-Top.is) c.best_count.result c.best_count.ensures

pub returns-in-Group : goal.returns-in-Group
returns-in-Group c =
    least_group (ending_at c.args.ending.now) c.variables-width.result.now c.variables-width.ensures
    (sym c.ending_kind.ensures ∙ c.in-Group.is)

pub returns-in-Registers : goal.returns-in-Registers
returns-in-Registers c =
    least_registers (ending_at c.args.ending.now) (sym c.ending_kind.ensures ∙ c.in-Registers.is)

pub returns-in-Invalid : goal.returns-in-Invalid
returns-in-Invalid c =
    absurd (some_kind (ending_at c.args.ending.now) (sym c.ending_kind.ensures ∙ c.in-Invalid.is))
