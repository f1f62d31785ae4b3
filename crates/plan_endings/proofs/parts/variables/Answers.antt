-- `variables` meets its contract: where they stand, by the kind of the ending.
use mathlib.Core.Path.{sym, ap, ◌∙◌}
use native.Mathlib.Omega.{arith}
use Rattle.words.specs.Words.{low}
use Rattle.plans.specs.Endings.{ending_kind_of}
use Rattle.plans.specs.Reading.{variables_in}
use Rattle.plans.proofs.EndingForms.{rows_here, rows_next, group_room, registers_room, not_invalid, some_word}
use Rattle.plans.proofs.EndingRead.{ending_rows, ending_top, ending_group, ending_registers, counted_lent}
use Rattle.plan_endings.proofs.parts.variables.Goals as goal

pub row_variables-requires : goal.row_variables-requires
row_variables-requires c =
    let e = c.args.e.now in
    let pre = c.requires in
    rows_here e c.ending_kind_of.result (c.ending_kind_of.ensures ∙ ap ending_kind_of c.first.ensures) pre c.in-Rows.is

pub slice_bounds-row_variables-count : goal.slice_bounds-row_variables-count
slice_bounds-row_variables-count c =
    let e = c.args.e.now in
    let pre = c.requires in
    omega (
      arith,
      some_word e c.ending_kind_of.result (c.ending_kind_of.ensures ∙ ap ending_kind_of c.first.ensures)
          (not_invalid e c.ending_kind_of.result (c.ending_kind_of.ensures ∙ ap ending_kind_of c.first.ensures) pre),
    )

pub slice_bounds-row_variables-start : goal.slice_bounds-row_variables-start
slice_bounds-row_variables-start c =
    let e = c.args.e.now in
    let pre = c.requires in
    omega (
      arith,
      some_word e c.ending_kind_of.result (c.ending_kind_of.ensures ∙ ap ending_kind_of c.first.ensures)
          (not_invalid e c.ending_kind_of.result (c.ending_kind_of.ensures ∙ ap ending_kind_of c.first.ensures) pre),
    )

pub row_variables-requires-in-Top : goal.row_variables-requires-in-Top
row_variables-requires-in-Top c =
    let e = c.args.e.now in
    let pre = c.requires in
    rows_next e c.ending_kind_of.result (c.ending_kind_of.ensures ∙ ap ending_kind_of c.first.ensures) pre c.in-Top.is

pub slice_bounds-result-end : goal.slice_bounds-result-end
slice_bounds-result-end c =
    let e = c.args.e.now in
    let pre = c.requires in
    omega (
      arith,
      group_room e c.ending_kind_of.result (c.ending_kind_of.ensures ∙ ap ending_kind_of c.first.ensures) pre c.in-Group.is c.wide-end.result
          (c.wide-end.ensures ∙ c.low.ensures ∙ ap low c.first-in-Group.ensures),
    )

pub slice_bounds-result-count-in-Registers : goal.slice_bounds-result-count-in-Registers
slice_bounds-result-count-in-Registers c =
    let e = c.args.e.now in
    let pre = c.requires in
    omega (arith, registers_room e c.ending_kind_of.result (c.ending_kind_of.ensures ∙ ap ending_kind_of c.first.ensures) pre c.in-Registers.is)

pub slice_bounds-result-start-in-Registers : goal.slice_bounds-result-start-in-Registers
slice_bounds-result-start-in-Registers c =
    let e = c.args.e.now in
    omega (arith, registers_room e c.ending_kind_of.result (c.ending_kind_of.ensures ∙ ap ending_kind_of c.first.ensures) c.requires c.in-Registers.is)

pub returns-in-Rows : goal.returns-in-Rows
returns-in-Rows c =
    let e = c.args.e.now in
    c.row_variables.ensures
    ∙ sym (ap variables_in (ending_rows e c.ending_kind_of.result (c.ending_kind_of.ensures ∙ ap ending_kind_of c.first.ensures) c.in-Rows.is))

pub returns-in-Top : goal.returns-in-Top
returns-in-Top c =
    let e = c.args.e.now in
    c.row_variables-in-Top.ensures ∙
    sym (ap variables_in (ending_top e c.ending_kind_of.result (c.ending_kind_of.ensures ∙ ap ending_kind_of c.first.ensures) c.in-Top.is))

pub returns-in-Group : goal.returns-in-Group
returns-in-Group c =
    let e = c.args.e.now in
    sym (ap variables_in (ending_group e c.ending_kind_of.result (c.ending_kind_of.ensures ∙ ap ending_kind_of c.first.ensures) c.in-Group.is c.wide-end.result
    (c.wide-end.ensures ∙ c.low.ensures ∙ ap low c.first-in-Group.ensures)))

pub returns-in-Registers : goal.returns-in-Registers
returns-in-Registers c =
    let e = c.args.e.now in
    let pre = c.requires in
    let et = c.ending_kind_of.ensures ∙ ap ending_kind_of c.first.ensures in
    let told = c.in-Registers.is in
    counted_lent e (registers_room e c.ending_kind_of.result et pre told) ∙ sym (ap variables_in (ending_registers e c.ending_kind_of.result et told))

pub returns-in-Invalid : goal.returns-in-Invalid
returns-in-Invalid c =
    let e = c.args.e.now in
    let pre = c.requires in
    absurd (not_invalid e c.ending_kind_of.result (c.ending_kind_of.ensures ∙ ap ending_kind_of c.first.ensures) pre c.in-Invalid.is)
