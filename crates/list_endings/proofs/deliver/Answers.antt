-- `deliver` meets its contract: the row goes into the kind of list that the ending makes.
use mathlib.Core.Path.{sym, ◌∙◌}
use Rattle.plans.specs.Endings.{ending_at}
use Rattle.plans.proofs.EndingRead.{some_kind}
use Rattle.list_endings.proofs.Receiving.{rows_room, rows_taken_lem, top_ready, top_taken, group_ready, group_taken, registers_ready, registers_taken}
use Rattle.list_endings.proofs.deliver.Goals as goal

pub put_row-requires : goal.put_row-requires
put_row-requires c =
    rows_room (ending_at c.args.ending.now) c.args.threshold.now c.args.out.now c.args.used c.args.bound.now c.requires.receives
    c.variables-vars.result.now c.variables-vars.ensures (sym c.ending_kind.ensures ∙ c.in-Rows.is)

pub best_count-requires : goal.best_count-requires
best_count-requires c =
    (c.requires.ending_value, sym c.ending_kind.ensures ∙ c.in-Top.is)

pub put_best-requires : goal.put_best-requires
put_best-requires c =
    top_ready (ending_at c.args.ending.now) c.args.threshold.now c.args.out.now c.args.used c.args.bound.now c.requires.receives
    c.variables-vars.result.now c.variables-vars.ensures (sym c.ending_kind.ensures ∙ c.in-Top.is)
    c.best_count.result c.best_count.ensures c.keys.result.now c.keys.ensures

pub measured-requires : goal.measured-requires
measured-requires c =
    (c.requires.ending_value, sym c.ending_kind.ensures ∙ c.in-Group.is)

pub put_group-requires : goal.put_group-requires
put_group-requires c =
    group_ready (ending_at c.args.ending.now) c.args.threshold.now c.args.out.now c.args.used c.args.bound.now c.requires.receives
    c.variables-vars.result.now c.variables-vars.ensures (sym c.ending_kind.ensures ∙ c.in-Group.is)
    c.measured.result c.measured.ensures

pub counted-requires : goal.counted-requires
counted-requires c =
    (c.requires.ending_value, sym c.ending_kind.ensures ∙ c.in-Registers.is)

pub put_counted-requires : goal.put_counted-requires
put_counted-requires c =
    registers_ready (ending_at c.args.ending.now) c.args.threshold.now c.args.out.now c.args.used c.args.bound.now c.requires.receives
    (sym c.ending_kind.ensures ∙ c.in-Registers.is) c.counted.result c.counted.ensures

pub returns-in-Rows : goal.returns-in-Rows
returns-in-Rows c =
    rows_taken_lem (ending_at c.args.ending.now) c.args.threshold.now c.args.out.now c.args.used c.args.bound.now c.requires.receives
    c.variables-vars.result.now c.variables-vars.ensures (sym c.ending_kind.ensures ∙ c.in-Rows.is)
    c.put_row.new.out c.put_row.result c.put_row.ensures

pub returns-in-Top : goal.returns-in-Top
returns-in-Top c =
    top_taken (ending_at c.args.ending.now) c.args.threshold.now c.args.out.now c.args.used c.args.bound.now c.requires.receives
    c.variables-vars.result.now c.variables-vars.ensures (sym c.ending_kind.ensures ∙ c.in-Top.is)
    c.best_count.result c.best_count.ensures c.keys.result.now c.keys.ensures
    c.put_best.new.out c.put_best.result c.put_best.ensures

pub returns-in-Group : goal.returns-in-Group
returns-in-Group c =
    group_taken (ending_at c.args.ending.now) c.args.threshold.now c.args.out.now c.args.used c.args.bound.now c.requires.receives
    c.variables-vars.result.now c.variables-vars.ensures (sym c.ending_kind.ensures ∙ c.in-Group.is)
    c.measured.result c.measured.ensures
    c.put_group.new.out c.put_group.result c.put_group.ensures

pub returns-in-Registers : goal.returns-in-Registers
returns-in-Registers c =
    registers_taken (ending_at c.args.ending.now) c.args.threshold.now c.args.out.now c.args.used c.args.bound.now c.requires.receives
    (sym c.ending_kind.ensures ∙ c.in-Registers.is) c.counted.result c.counted.ensures
    c.put_counted.new.out c.put_counted.result c.put_counted.ensures

pub returns-in-Invalid : goal.returns-in-Invalid
returns-in-Invalid c =
    absurd (some_kind (ending_at c.args.ending.now) (sym c.ending_kind.ensures ∙ c.in-Invalid.is))
