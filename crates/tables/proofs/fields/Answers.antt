-- `tables::fields` meets its contract: by the order, the words in its sequence.
use Rattle.tables.specs.Tables.{fields_of}
use Rattle.tables.proofs.fields.Goals as goal

pub returns-in-Spo : goal.returns-in-Spo
unfolding fields_of
returns-in-Spo c = rw (c.wide-at.ensures, c.in-Spo.is)

pub returns-in-Pos : goal.returns-in-Pos
unfolding fields_of
returns-in-Pos c = rw (c.wide-at.ensures, c.in-Pos.is)

pub returns-in-Osp : goal.returns-in-Osp
unfolding fields_of
returns-in-Osp c = rw (c.wide-at.ensures, c.in-Osp.is)
