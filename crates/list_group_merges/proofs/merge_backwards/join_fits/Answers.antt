-- `join_fits` meets its contract.
use mathlib.Core.Path.{◌∙◌}
use Rattle.list_group_merges.proofs.PuttingRecords.{fits_lent}
use Rattle.list_group_merges.proofs.merge_backwards.join_fits.Goals as goal

pub returns : goal.returns
returns c =
    c.totals_fit.ensures
    ∙ fits_lent c.args.g c.args.kept.now c.args.x c.args.list.now c.args.y c.requires.1 c.requires.2
    c.read_totals.result c.read_totals-2.result c.read_totals.ensures
    c.read_totals-2.ensures
