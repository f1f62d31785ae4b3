-- `table_readings::keys` meets its contract: by the order, its keys.
use Rattle.table_walk_keys.specs.Walk.{keys_of}
use Rattle.table_readings.proofs.keys.Goals as goal

pub returns-in-Spo : goal.returns-in-Spo
unfolding keys_of
returns-in-Spo c = rw c.in-Spo.is c.own_keys.ensures

pub returns-in-Pos : goal.returns-in-Pos
returns-in-Pos c = rw c.in-Pos.is c.pos_keys.ensures

pub returns-in-Osp : goal.returns-in-Osp
returns-in-Osp c = rw c.in-Osp.is c.osp_keys.ensures
