-- `write_lists` meets its contract: each list stands over the front of its buffer.
use Prim.Native.Nat.{ℕ, ◌+◌, ◌*◌, ◌≤◌}
use native.Mathlib.Omega.{arith}
use mathlib.Core.Path.{◌≡◌, sym, ◌∙◌, ap}
use mathlib.Core.List.{List, ◌++◌}
use lib.ListN.{length, take, drop}
use lib.Seq.{length-take-le}
use Rattle.sequences.specs.Sequences.{over}
use Rattle.tables.specs.declared.Order.{Order}
use Rattle.tables.specs.declared.Order.TheVariants.{Pos, Osp}
use Rattle.tables.specs.Tables.{column_count, most_rows}
use Rattle.tables.specs.RowLists.{Room, row_numbers}
use Rattle.tables.proofs.RowNumbers.{list_length}
use Rattle.table_lists.proofs.write_lists.Goals as goal

module _ (rows : List ℕ) (count : ℕ) (there : count * column_count ≤ length rows) where
  abbrev firsts : List ℕ
  firsts = take (count * column_count) rows

  -- the part of a buffer that is lent has room for the list
  room : (part spare : ℕ) → part ≡ count → count ≤ most_rows → most_rows ≤ spare + spare → Room firsts part spare
  room part spare e few spared =
      let n = length-take-le (count * column_count) rows there in
      record { whole = omega arith; few = omega arith; spared = omega arith }

  -- the list over the front of its buffer
  over_list : (o : Order) (part buffer : List ℕ) → part ≡ row_numbers o firsts → part ++ drop count buffer ≡ over (row_numbers o firsts) buffer
  over_list o part buffer e =
      let n : count ≡ length (row_numbers o firsts) = omega (arith, length-take-le (count * column_count) rows there, list_length o firsts) in
      ap (λ l. l ++ drop count buffer) e ∙ ap (λ k. row_numbers o firsts ++ drop k buffer) n

pub slice_bounds-write_list-end : goal.slice_bounds-write_list-end
slice_bounds-write_list-end c =
    sym (length-take-le (c.args.count * column_count) c.args.rows.now c.requires.column_count_in_bounds.0)

pub slice_bounds-write_list-end-3 : goal.slice_bounds-write_list-end-3
slice_bounds-write_list-end-3 c =
    sym (length-take-le c.args.count c.args.pos.now c.requires.column_count_in_bounds.1)

pub write_list-requires : goal.write_list-requires
write_list-requires c =
    room c.args.rows.now c.args.count c.requires.column_count_in_bounds.0 _ _
    (length-take-le c.args.count c.args.pos.now c.requires.column_count_in_bounds.1) c.requires.count_le_most_rows.0
    c.requires.count_le_most_rows.1

pub slice_bounds-write_list-end-4 : goal.slice_bounds-write_list-end-4
slice_bounds-write_list-end-4 c =
    sym (length-take-le (c.args.count * column_count) c.args.rows.now c.requires.column_count_in_bounds.0)

pub slice_bounds-write_list-end-6 : goal.slice_bounds-write_list-end-6
slice_bounds-write_list-end-6 c =
    sym (length-take-le c.args.count c.args.osp.now c.requires.column_count_in_bounds.2)

pub write_list-requires-2 : goal.write_list-requires-2
write_list-requires-2 c =
    room c.args.rows.now c.args.count c.requires.column_count_in_bounds.0 _ _
    (length-take-le c.args.count c.args.osp.now c.requires.column_count_in_bounds.2) c.requires.count_le_most_rows.0
    (omega (arith, c.requires.count_le_most_rows.1, c.write_list.auto.spare))

pub returns : goal.returns
returns c = record {
  pos_after =
      over_list c.args.rows.now c.args.count c.requires.column_count_in_bounds.0 Pos c.write_list.new.list c.args.pos.now c.write_list.ensures;
  osp_after = over_list c.args.rows.now c.args.count c.requires.column_count_in_bounds.0 Osp c.write_list-2.new.list c.args.osp.now c.write_list-2.ensures;
}
