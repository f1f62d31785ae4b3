-- `move_record` meets its contract.
use mathlib.Core.Path.{◌∙◌}
use Rattle.list_group_merges.proofs.PuttingRecords.{moved_up_lem}
use Rattle.list_group_merges.proofs.merge_backwards.move_record.Goals as goal

pub returns : goal.returns
returns c =
    c.shift.ensures ∙ moved_up_lem c.args.kept.now c.args.from c.args.to c.args.w c.requires.0
