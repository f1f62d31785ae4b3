-- `threshold_right` meets its contract: by the kind of the ending.
use mathlib.Core.Path.{sym, ◌∙◌}
use Rattle.plans.specs.Endings.{ending_at}
use Rattle.plans.proofs.EndingRead.{some_kind}
use Rattle.list_limits.proofs.ByKind.{threshold_rows, threshold_top, threshold_group, threshold_registers}
use Rattle.list_limits.proofs.thresholds.threshold_right.Goals as goal

pub returns-in-Top : goal.returns-in-Top
returns-in-Top c =
    threshold_top (ending_at c.args.ending.now) c.args.threshold.now c.best_threshold.result c.variables.result.now
    c.variables.ensures
    (sym c.ending_kind.ensures ∙ c.in-Top.is) c.best_threshold.ensures

pub returns-in-Rows : goal.returns-in-Rows
returns-in-Rows c =
    threshold_rows (ending_at c.args.ending.now) c.args.threshold.now c.no_threshold.result
    (sym c.ending_kind.ensures ∙ c.in-Rows.is) c.no_threshold.ensures.rows

pub returns-in-Group : goal.returns-in-Group
returns-in-Group c =
    threshold_group (ending_at c.args.ending.now) c.args.threshold.now c.no_threshold-in-Group.result
    (sym c.ending_kind.ensures ∙ c.in-Group.is) c.no_threshold-in-Group.ensures.groups

pub returns-in-Registers : goal.returns-in-Registers
returns-in-Registers c =
    threshold_registers (ending_at c.args.ending.now) c.args.threshold.now c.no_threshold-in-Registers.result
    (sym c.ending_kind.ensures ∙ c.in-Registers.is) c.no_threshold-in-Registers.ensures.registers

pub returns-in-Invalid : goal.returns-in-Invalid
returns-in-Invalid c =
    absurd (some_kind (ending_at c.args.ending.now) (sym c.ending_kind.ensures ∙ c.in-Invalid.is))
