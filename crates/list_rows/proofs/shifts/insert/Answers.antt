-- `insert` meets its contract: the words behind are moved, and then the new ones are copied in.
use mathlib.Core.Path.{◌∙◌}
use Rattle.lists.proofs.Moving.{insert_both}
use Rattle.list_rows.proofs.shifts.insert.Goals as goal

pub returns : goal.returns
returns c =
    c.copy_in.ensures
    ∙ rw c.shift.ensures
    (insert_both c.args.buf.now c.args.words.now c.args.a c.args.e c.requires.0 c.requires.1)
