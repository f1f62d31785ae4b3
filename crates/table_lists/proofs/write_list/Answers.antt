-- `write_list` meets its contract.
use Prim.Native.Nat.{◌/◌}
use native.Mathlib.Omega.{arith}
use mathlib.Core.Path.{◌≡◌, ◌∙◌, ap}
use lib.ListN.{length}
use Rattle.sequences.specs.Sequences.{numbers}
use Rattle.sequences.specs.Sorting.{sort_by}
use Rattle.tables.specs.Tables.{column_count}
use Rattle.tables.specs.RowLists.{number_before, row_numbers}
use Rattle.tables.proofs.RowNumbers.{numbers_named}
use Rattle.table_lists.proofs.write_list.Goals as goal

pub sort-requires : goal.sort-requires
sort-requires c = record {
  list_value = rw c.number.ensures (numbers_named c.args.rows.now (length c.args.list.now) c.requires.whole);
  list_in_bounds = omega (arith, c.number.auto.list, c.requires.spared);
}

pub returns : goal.returns
unfolding row_numbers
returns c =
    let rows = c.args.rows.now in
    let m : length c.args.list.now ≡ length rows / column_count = omega (arith, c.requires.whole) in
    c.sort.ensures ∙ ap (sort_by (number_before c.args.order rows)) (c.number.ensures ∙ ap numbers m)
