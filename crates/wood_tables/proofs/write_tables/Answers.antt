-- `write_tables` meets its contract: the lists are those of the rows that stand at the front of their buffer.
use Prim.Native.Nat.{◌*◌}
use native.Mathlib.Omega.{arith}
use mathlib.Core.Path.{◌≡◌, sym, ◌∙◌, ap, ap₂}
use mathlib.Core.List.{flatten}
use lib.ListN.{length, take}
use Rattle.sequences.specs.Sequences.{over}
use Rattle.sequences.proofs.Buffers.{take_over}
use Rattle.tables.specs.declared.Order.TheVariants.{Pos, Osp}
use Rattle.tables.specs.Tables.{column_count}
use Rattle.tables.specs.RowLists.{row_numbers}
use Rattle.woods.specs.Woods.{wood_rows}
use Rattle.woods.proofs.Lengths.{rows_length}
use Rattle.wood_tables.proofs.write_tables.Goals as goal
use Rattle.wood_tables.proofs.write_tables.Goals.{Start}

made_size : (s : Start) → length (flatten (wood_rows s.args.seed s.args.year s.args.stems)) ≡ s.args.count * column_count
made_size s = omega (arith, rows_length s.args.seed s.args.stems s.args.year, s.requires.stems_le_most_stems.2)

pub returns : goal.returns
returns c = let a = c.args in
    let rows : c.write_rows-end.new.rows ≡ over (flatten (wood_rows a.seed a.year a.stems)) a.rows.now = c.write_rows-end.ensures.rows_after in
    let first = ap₂ take (sym (made_size (goal.at.returns c).Start)) rows ∙ take_over (flatten (wood_rows a.seed a.year a.stems)) a.rows.now in
    record {
      value = omega (arith, c.write_rows-end.ensures.value, c.requires.stems_le_most_stems.2);
      rows_after = rows;
      pos_after =
          c.write_lists.ensures.pos_after ∙ ap (λ rs. over (row_numbers Pos rs) a.pos.now) first;
      osp_after = c.write_lists.ensures.osp_after ∙
          ap (λ rs. over (row_numbers Osp rs) a.osp.now) first;
    }
