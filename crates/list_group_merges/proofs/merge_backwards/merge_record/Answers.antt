-- `merge_record` meets its contract: the totals of the record are added to where it was moved.
use Rattle.list_group_merges.proofs.PuttingRecords.{both_size, both_fit_lem, both_put}
use Rattle.list_group_merges.proofs.merge_backwards.merge_record.Goals as goal

pub add_totals-requires : goal.add_totals-requires
add_totals-requires c = (
  both_size c.args.g c.args.kept.now c.args.from c.args.to c.args.more.now c.requires.1 c.requires.2 c.requires.3
      c.move_record.new.kept c.move_record.ensures
      c.read_totals-t.result c.read_totals-t.ensures,
  both_fit_lem c.args.g c.args.kept.now c.args.from c.args.to c.args.more.now c.requires.1 c.requires.2 c.requires.3
      c.move_record.new.kept c.move_record.ensures
      c.read_totals-t.result c.read_totals-t.ensures c.requires.4,
)

pub returns : goal.returns
returns c =
    both_put c.args.g c.args.kept.now c.args.from c.args.to c.args.more.now c.requires.1 c.requires.2 c.requires.3
    c.move_record.new.kept c.move_record.ensures
    c.read_totals-t.result
    c.read_totals-t.ensures c.add_totals.new.s
    c.add_totals.ensures
