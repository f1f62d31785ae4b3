-- `lists_of` meets its contract: the ending's kind, and its width by its variables.
use native.Mathlib.Omega.{arith}
use mathlib.Core.Path.{◌∙◌, ap, ap₂}
use lib.ListN.{length}
use Rattle.plans.specs.Plans.{plan_of}
use Rattle.plans.specs.Reading.{ending_kind_in, variables_in}
use Rattle.print_writing.specs.Listings.{width_of}
use Rattle.print_writing.proofs.Widths.{ending_form_lem, few_variables, width_of_lem}
use Rattle.print_writing.proofs.plan_lists.lists_of.Goals as goal

pub record_width-requires : goal.record_width-requires
record_width-requires c =
    let e = c.ending_part-ending.ensures.1 in
    let n = ap length (c.variables-variables.ensures ∙ ap variables_in e) in
    omega (arith, n, few_variables (plan_of c.args.plan.now).ending (ending_form_lem c.args.plan.now c.requires))

pub returns : goal.returns
returns c =
    let e = c.ending_part-ending.ensures.1 in
    let k = c.ending_kind-kind.ensures ∙ ap ending_kind_in e in
    let n = ap length (c.variables-variables.ensures ∙ ap variables_in e) in
    let w = c.record_width.ensures ∙ ap₂ width_of k n ∙ width_of_lem (plan_of c.args.plan.now).ending in
    rw (k, w)
