-- `put_record` meets its contract: one record is put, whichever list it comes from.
use native.Mathlib.Omega.{arith}
use Rattle.list_group_merges.proofs.PuttingRecords.{new_size, new_put, old_put, joined_put, joined_fits, same_old, after_old}
use Rattle.list_group_merges.proofs.merge_backwards.put_record.Goals as goal

pub overflow_sub-new : goal.overflow_sub-new
overflow_sub-new c = let h = c.requires.1.new_there in omega arith

pub copy_in-requires : goal.copy_in-requires
copy_in-requires c =
    let n = new_size c.args.g c.args.kept.now c.args.x c.args.list.now c.args.y c.args.to c.args.side c.requires.1 in
    let r = c.requires.1.room in
    omega arith

pub overflow_sub-x : goal.overflow_sub-x
overflow_sub-x c =
    (same_old c.args.g c.args.kept.now c.args.x c.args.list.now c.args.y c.args.to c.args.side c.requires.1
    c.in-Equal.is).0

pub merge_record-requires : goal.merge_record-requires
merge_record-requires c =
    let e = c.in-Equal.is in (
      c.requires.0,
      (same_old c.args.g c.args.kept.now c.args.x c.args.list.now c.args.y c.args.to c.args.side c.requires.1
          e).1,
      c.requires.1.room,
      new_size c.args.g c.args.kept.now c.args.x c.args.list.now c.args.y c.args.to c.args.side
          c.requires.1,
      joined_fits c.args.g c.args.kept.now c.args.x c.args.list.now c.args.y c.args.to c.args.side
          c.requires.1 e,
    )

pub overflow_sub-x-in-Greater : goal.overflow_sub-x-in-Greater
overflow_sub-x-in-Greater c =
    (after_old c.args.g c.args.kept.now c.args.x c.args.list.now c.args.y c.args.to c.args.side c.requires.1
    c.in-Greater.is).0

pub move_record-requires : goal.move_record-requires
move_record-requires c = (
  (after_old c.args.g c.args.kept.now c.args.x c.args.list.now c.args.y c.args.to c.args.side c.requires.1
      c.in-Greater.is).1,
  c.requires.1.room,
)

pub returns-in-Less : goal.returns-in-Less
returns-in-Less c =
    new_put c.args.g c.args.kept.now c.args.x c.args.list.now c.args.y c.args.to c.args.side c.requires.1
    c.in-Less.is c.copy_in.new.buf c.copy_in.ensures

pub returns-in-Equal : goal.returns-in-Equal
returns-in-Equal c =
    joined_put c.args.g c.args.kept.now c.args.x c.args.list.now c.args.y c.args.to c.args.side c.requires.1
    c.in-Equal.is c.merge_record.new.kept c.merge_record.ensures

pub returns-in-Greater : goal.returns-in-Greater
returns-in-Greater c =
    old_put c.args.g c.args.kept.now c.args.x c.args.list.now c.args.y c.args.to c.args.side c.requires.1
    c.in-Greater.is c.move_record.new.kept c.move_record.ensures
