-- `close` meets its contract: by the kind of the ending.
use mathlib.Core.Path.{sym, ◌∙◌}
use Rattle.plans.specs.Endings.{ending_at}
use Rattle.plans.proofs.EndingRead.{some_kind}
use Rattle.list_closings.proofs.ByClosing.{close_rows, close_top, close_registers, group_room, close_group}
use Rattle.list_closings.proofs.close.Goals as goal

pub close_groups-requires : goal.close_groups-requires
close_groups-requires c =
    group_room (ending_at c.args.ending.now) c.args.out.now c.args.used c.requires.ending_in_bounds.1
    (sym c.ending_kind.ensures ∙ c.in-Group.is) c.variables-vars.result.now c.variables-vars.ensures c.requires.ending_in_bounds.0

pub returns-in-Rows : goal.returns-in-Rows
returns-in-Rows c =
    close_rows (ending_at c.args.ending.now) c.args.out.now c.args.used c.requires.ending_in_bounds.1 (sym c.ending_kind.ensures ∙ c.in-Rows.is)

pub returns-in-Top : goal.returns-in-Top
returns-in-Top c =
    close_top (ending_at c.args.ending.now) c.args.out.now c.args.used c.requires.ending_in_bounds.1 (sym c.ending_kind.ensures ∙ c.in-Top.is)

pub returns-in-Group : goal.returns-in-Group
returns-in-Group c =
    close_group (ending_at c.args.ending.now) c.args.out.now c.args.used c.requires.ending_in_bounds.1
    (sym c.ending_kind.ensures ∙ c.in-Group.is) c.variables-vars.result.now c.variables-vars.ensures
    c.close_groups.new.out c.close_groups.result c.close_groups.ensures

pub returns-in-Registers : goal.returns-in-Registers
returns-in-Registers c =
    close_registers (ending_at c.args.ending.now) c.args.out.now c.args.used c.requires.ending_in_bounds.1
    (sym c.ending_kind.ensures ∙ c.in-Registers.is)

pub returns-in-Invalid : goal.returns-in-Invalid
returns-in-Invalid c =
    absurd (some_kind (ending_at c.args.ending.now) (sym c.ending_kind.ensures ∙ c.in-Invalid.is))
