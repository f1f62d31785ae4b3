-- `merge_registers` meets its contract: copied where nothing is kept, else merged.
use Rattle.list_registers.proofs.Merged.{none_merged, some_merged}
use Rattle.list_registers.proofs.merging.merge_registers.Goals as goal

pub returns-then-given-eq0 : goal.returns-then-given-eq0
returns-then-given-eq0 c =
    none_merged c.args.kept.now c.args.list.now c.requires.list_len.0 c.args.given c.if-given-eq0.true _
    c.copy_in.ensures

pub returns : goal.returns
returns c =
    some_merged c.args.kept.now c.args.list.now c.requires.list_len.0 c.args.given c.requires.given_in_bounds.0 c.requires.given_in_bounds.1
    c.if-given-eq0.false _ c.merge_each.ensures
