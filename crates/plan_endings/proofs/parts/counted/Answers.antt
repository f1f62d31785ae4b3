-- `counted` meets its contract: the variable is the second word.
use mathlib.Core.Path.{refl, sym, ap, ◌∙◌}
use native.Mathlib.Omega.{arith}
use lib.ListN.{get_or}
use Rattle.plans.specs.Endings.{ending_kind_of}
use Rattle.plans.specs.Reading.{measured_in}
use Rattle.plans.proofs.EndingForms.{registers_room}
use Rattle.plans.proofs.EndingRead.{last_in_lem, ending_registers}
use Rattle.plan_endings.proofs.parts.counted.Goals as goal

pub bounds-e-1 : goal.bounds-e-1
bounds-e-1 c =
    let e = c.args.e.now in
    let pre = c.requires in
    omega (arith, registers_room e (ending_kind_of (get_or e 0 0)) refl pre.0 (sym (last_in_lem e pre.0) ∙ pre.1))

pub returns : goal.returns
returns c =
    let e = c.args.e.now in
    let pre = c.requires in
    sym (ap measured_in (ending_registers e (ending_kind_of (get_or e 0 0)) refl (sym (last_in_lem e pre.0) ∙ pre.1)))
