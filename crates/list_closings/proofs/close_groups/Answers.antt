-- `close_groups` meets its contract: the list is as it was, or it is the record of no rows.
use native.Mathlib.Omega.{arith}
use mathlib.Core.Path.{refl, sym, ◌∙◌, ap}
use lib.Seq.{length-take-le}
use Rattle.list_group_totals.specs.GroupTotals.{totals_words}
use Rattle.list_closings.proofs.ClosedGroups.{closed_keyed, closed_some, closed_none}
use Rattle.list_closings.proofs.close_groups.Goals as goal

pub returns-then-vars-ne0 : goal.returns-then-vars-ne0
returns-then-vars-ne0 c m =
    closed_keyed c.args.vars.now c.args.out.now c.args.used m c.if-vars-ne0.true c.requires.1

pub returns-then-used-ne0 : goal.returns-then-used-ne0
returns-then-used-ne0 c m =
    closed_some c.args.vars.now c.args.out.now c.args.used m c.if-vars-ne0.false c.if-used-ne0.true c.requires.1

pub slice_bounds-write_totals-end-2 : goal.slice_bounds-write_totals-end-2
slice_bounds-write_totals-end-2 c =
    sym (length-take-le 8 c.args.out.now (omega (arith, c.requires.0)))

pub write_totals-requires : goal.write_totals-requires
write_totals-requires c =
    length-take-le 8 c.args.out.now (omega (arith, c.requires.0))

pub returns : goal.returns
returns c m =
    closed_none c.args.vars.now c.args.out.now c.args.used m _ c.write_totals.new.s c.if-vars-ne0.false c.if-used-ne0.false
    (c.write_totals.ensures ∙ ap totals_words c.no_totals.ensures) refl
