-- `keys` meets its contract: only a best-of ending has keys, behind its kind 8 part.
use mathlib.Core.Path.{refl, sym, ap, ◌∙◌}
use native.Mathlib.Omega.{arith}
use lib.ListN.{get_or}
use Rattle.words.specs.Words.{low}
use Rattle.plans.specs.Endings.{ending_kind_of}
use Rattle.plans.specs.Reading.{keys_in}
use Rattle.plans.proofs.EndingForms.{rows_next, not_invalid, some_word}
use Rattle.plans.proofs.EndingRead.{ending_rows, ending_top, ending_group, ending_registers}
use Rattle.plan_endings.proofs.parts.keys.Goals as goal

pub slice_bounds-after_rows-count : goal.slice_bounds-after_rows-count
slice_bounds-after_rows-count c =
    let e = c.args.e.now in
    let pre = c.requires in
    omega (
      arith,
      some_word e c.ending_kind_of.result (c.ending_kind_of.ensures ∙ ap ending_kind_of c.first.ensures)
          (not_invalid e c.ending_kind_of.result (c.ending_kind_of.ensures ∙ ap ending_kind_of c.first.ensures) pre),
    )

pub slice_bounds-after_rows-start : goal.slice_bounds-after_rows-start
slice_bounds-after_rows-start c =
    let e = c.args.e.now in
    let pre = c.requires in
    omega (
      arith,
      some_word e c.ending_kind_of.result (c.ending_kind_of.ensures ∙ ap ending_kind_of c.first.ensures)
          (not_invalid e c.ending_kind_of.result (c.ending_kind_of.ensures ∙ ap ending_kind_of c.first.ensures) pre),
    )

pub after_rows-requires : goal.after_rows-requires
after_rows-requires c =
    let e = c.args.e.now in
    let pre = c.requires in
    rows_next e c.ending_kind_of.result (c.ending_kind_of.ensures ∙ ap ending_kind_of c.first.ensures) pre c.in-Top.is

pub returns-in-Top : goal.returns-in-Top
returns-in-Top c =
    let e = c.args.e.now in
    c.after_rows.ensures ∙ sym (ap keys_in (ending_top e c.ending_kind_of.result (c.ending_kind_of.ensures ∙ ap ending_kind_of c.first.ensures) c.in-Top.is))

pub returns-in-Rows : goal.returns-in-Rows
returns-in-Rows c =
    let e = c.args.e.now in
    sym (ap keys_in (ending_rows e c.ending_kind_of.result (c.ending_kind_of.ensures ∙ ap ending_kind_of c.first.ensures) c.in-Rows.is))

pub returns-in-Group : goal.returns-in-Group
returns-in-Group c =
    let e = c.args.e.now in
    sym (ap keys_in (ending_group e c.ending_kind_of.result (c.ending_kind_of.ensures ∙ ap ending_kind_of c.first.ensures) c.in-Group.is
    (low (get_or e 0 0)) refl))

pub returns-in-Registers : goal.returns-in-Registers
returns-in-Registers c =
    let e = c.args.e.now in
    sym (ap keys_in (ending_registers e c.ending_kind_of.result (c.ending_kind_of.ensures ∙ ap ending_kind_of c.first.ensures) c.in-Registers.is))

pub returns-in-Invalid : goal.returns-in-Invalid
returns-in-Invalid c =
    let e = c.args.e.now in
    let pre = c.requires in
    absurd (not_invalid e c.ending_kind_of.result (c.ending_kind_of.ensures ∙ ap ending_kind_of c.first.ensures) pre c.in-Invalid.is)
