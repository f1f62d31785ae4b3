-- `write_tables` meets its contract: the lists are those of the rows that stand at the front of their buffer.
use borrow.Author.Rules.{rules}
use Prim.Native.Nat.{◌*◌}
use native.Mathlib.Omega.{arith}
use mathlib.Core.Path.{◌≡◌, sym, ◌∙◌, ap, ap₂}
use lib.ListN.{length, take}
use Rattle.sequences.specs.Sequences.{over}
use Rattle.sequences.proofs.Buffers.{take_over}
use Rattle.tables.specs.declared.Order.TheVariants.{Pos, Osp}
use Rattle.tables.specs.Tables.{column_count}
use Rattle.tables.specs.RowLists.{row_numbers}
use Rattle.uploads.specs.Uploads.{made_rows}
use Rattle.uploads.proofs.Kept.{kept_most}
use Rattle.uploads.proofs.Lengths.{made_length}
use Rattle.upload_fates.proofs.RightNumbers.{right_named}
use Rattle.upload_writes.specs.Writing.{kept_words}
use Rattle.upload_writes.proofs.Tables.{made_words_lem}
use Rattle.upload_tables.proofs.write_tables.Goals as goal
use Rattle.upload_tables.proofs.write_tables.Goals.{Start}

words_made : (s : Start) → kept_words s.args.upload.now s.args.fates.now s.args.list.now ≡ made_rows s.args.upload.now
words_made s =
    ap (kept_words s.args.upload.now s.args.fates.now) s.requires.ready_to_write.listed
    ∙ made_words_lem s.args.upload.now s.args.fates.now s.requires.ready_to_write.judged

made_size : (s : Start) → length (made_rows s.args.upload.now) ≡ s.args.kept * column_count
made_size s = omega (arith, made_length s.args.upload.now, s.requires.ready_to_write.counted)

pub write_rows-end-requires : goal.write_rows-end-requires
write_rows-end-requires c = let up = c.args.upload.now in
    record {
      list_value = rw c.requires.ready_to_write.listed (right_named up);
      upload_in_bounds = c.requires.ready_to_write.long;
      list_in_bounds =
          omega (
            arith,
            ap length (words_made (goal.at.write_rows-end-requires c).Start),
            made_size (goal.at.write_rows-end-requires c).Start,
            c.requires.column_count_in_bounds.0,
          );
    }

pub write_lists-requires : goal.write_lists-requires
write_lists-requires c =
    let most = kept_most c.args.upload.now in
    search rules

pub returns : goal.returns
returns c = let a = c.args in
    let rows : c.write_rows-end.new.rows ≡ over (made_rows a.upload.now) a.rows.now =
    c.write_rows-end.ensures.rows_after ∙ ap (λ ws. over ws a.rows.now) (words_made (goal.at.returns c).Start) in
    let first = ap₂ take (sym (made_size (goal.at.returns c).Start)) rows ∙ take_over (made_rows a.upload.now) a.rows.now in
    record {
      value = c.write_rows-end.ensures.value ∙ ap length (words_made (goal.at.returns c).Start) ∙ made_size (goal.at.returns c).Start;
      rows_after = rows;
      pos_after = c.write_lists.ensures.pos_after ∙ ap (λ rs. over (row_numbers Pos rs) a.pos.now) first;
      osp_after =
          c.write_lists.ensures.osp_after ∙ ap (λ rs. over (row_numbers Osp rs) a.osp.now) first;
    }
