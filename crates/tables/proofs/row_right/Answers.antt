-- `tables::row_right` meets its contract: of each field, whether its column may have its kind.
use Rattle.sequences.specs.Sequences.{all_below}
use Rattle.tables.specs.Tables.{row_right}
use Rattle.tables.proofs.row_right.Goals as goal

pub returns : goal.returns
unfolding row_right all_below
returns c = rw (c.kind-o.ensures, c.kind-p.ensures, c.kind-s.ensures, c.kind-y.ensures)
