-- `measured` meets its contract: the measured variable stands behind the group variables.
use mathlib.Core.Path.{refl, sym, ap, ◌∙◌}
use native.Mathlib.Omega.{arith}
use lib.ListN.{get_or}
use Rattle.words.specs.Words.{low}
use Rattle.plans.specs.Endings.{ending_kind_of}
use Rattle.plans.specs.Reading.{measured_in}
use Rattle.plans.proofs.EndingForms.{group_room}
use Rattle.plans.proofs.EndingRead.{last_in_lem, ending_group}
use Rattle.plan_endings.proofs.parts.measured.Goals as goal

pub bounds-e-at : goal.bounds-e-at
bounds-e-at c =
    let e = c.args.e.now in
    let pre = c.requires in
    omega (
      arith,
      group_room e (ending_kind_of (get_or e 0 0)) refl pre.0 (sym (last_in_lem e pre.0) ∙ pre.1) c.wide-at.result
          (c.wide-at.ensures ∙ c.low.ensures ∙ ap low c.first.ensures),
    )

pub returns : goal.returns
returns c =
    let e = c.args.e.now in
    let pre = c.requires in
    sym (ap measured_in (ending_group e (ending_kind_of (get_or e 0 0)) refl (sym (last_in_lem e pre.0) ∙ pre.1) c.wide-at.result
    (c.wide-at.ensures ∙ c.low.ensures ∙ ap low c.first.ensures)))
