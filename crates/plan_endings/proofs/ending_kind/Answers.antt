-- `ending_kind` meets its contract: the first word of an ending that has the form tells its kind.
use mathlib.Core.Path.{sym, ap, ◌∙◌}
use Rattle.plans.specs.Endings.{ending_kind_of}
use Rattle.plans.proofs.EndingRead.{last_in_lem}
use Rattle.plan_endings.proofs.ending_kind.Goals as goal

pub returns : goal.returns
returns c =
    let args = c.args in
    let pre = c.requires in
    c.ending_kind_of.ensures ∙ ap ending_kind_of c.first.ensures ∙ sym (last_in_lem args.e.now pre)
