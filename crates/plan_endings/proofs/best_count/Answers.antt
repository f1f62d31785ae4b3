-- `best_count` meets its contract: 0 means ten.
use mathlib.Core.Path.{refl, sym, ap, ◌∙◌}
use lib.ListN.{get_or}
use borrow.Author.Tests.{eq-eqb, ne_eqb}
use Rattle.plans.specs.Endings.{ending_kind_of}
use Rattle.plans.specs.Reading.{best_in}
use Rattle.plans.proofs.EndingRead.{last_in_lem, ending_top}
use Rattle.plan_endings.proofs.best_count.Goals as goal

pub returns-then-k-eq0 : goal.returns-then-k-eq0
returns-then-k-eq0 c =
    let e = c.args.e.now in
    let pre = c.requires in
    c.wide.ensures ∙ sym (ap best_in (ending_top e (ending_kind_of (get_or e 0 0)) refl (sym (last_in_lem e pre.0) ∙ pre.1))
    ∙ rw (← c.first.ensures, ← c.low-k.ensures, eq-eqb _ _ c.if-k-eq0.true))

pub returns : goal.returns
returns c =
    let e = c.args.e.now in
    let pre = c.requires in
    c.wide-2.ensures ∙ sym (ap best_in (ending_top e (ending_kind_of (get_or e 0 0)) refl (sym (last_in_lem e pre.0) ∙ pre.1))
    ∙ rw (← c.first.ensures, ← c.low-k.ensures, ne_eqb _ _ c.if-k-eq0.false))
