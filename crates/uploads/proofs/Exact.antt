-- The made tables hold exactly the upload's rows of right kinds, each from its first row.
use Prim.Native.Nat.{ℕ, ◌≤◌, ◌<◌}
use native.Mathlib.Omega.{arith}
use mathlib.Core.Path.{◌≡◌, sym, ◌∙◌, ap}
use mathlib.Core.Bool.{true}
use mathlib.Core.List.{List}
use lib.Dec.{ltb}
use lib.ListN.{length, get_or}
use borrow.Author.Tests.{ltb-true}
use Rattle.sequences.proofs.Numbers.{kept_stands}
use Rattle.sequences.proofs.Somewhere.{each_at}
use Rattle.tables.specs.declared.Order.TheVariants.{Spo}
use Rattle.tables.specs.Tables.{most_rows, row_count, fields_of}
use Rattle.tables.specs.RowLists.{RowIn}
use Rattle.tables.specs.RowLists.{number_before}
use Rattle.tables.proofs.MadeTables.{one_number_lem}
use Rattle.uploads.specs.Uploads.{upload_count, kinds_good, is_kept, made_rows, made_tables}
use Rattle.uploads.specs.Exactness.{KeptRow, ExactlyKept}
use Rattle.uploads.proofs.Fates.{first_kept}
use Rattle.uploads.proofs.Kept.{sorted, sorted_kept, sorted_below, sorted_length, kept_right_lem, made_fields}
use Rattle.uploads.proofs.Lengths.{made_count}

module _ (up : List ℕ) where
  made_from : (row : ℕ) → row < row_count (made_tables up) → KeptRow up (fields_of Spo (made_rows up) row)
  made_from row h =
      let l : row < length (sorted up) = omega (arith, made_count up, sorted_length up) in
      record {
        row = get_or (sorted up) row 0;
        there = ltb-true _ _ (each_at (λ i. ltb i (upload_count up) ≡ true) (sorted up) 0 (sorted_below up) row l);
        passes = each_at (λ i. is_kept up i ≡ true) (sorted up) 0 (sorted_kept up) row l;
        is = sym (made_fields up row (omega (arith, made_count up)));
      }

  made_holds : (row : ℕ) → row < upload_count up → kinds_good up row ≡ true → RowIn (made_tables up) (fields_of Spo up row)
  made_holds row h g =
      let f = first_kept up row g in
      let e = f.early in
      let p = kept_stands (number_before Spo up) (is_kept up) (upload_count up) f.row (omega arith) f.passes in
      let l = p.inside in
      record {
        row = p.place;
        there = omega (arith, made_count up, sorted_length up);
        is = made_fields up p.place (omega (arith, sorted_length up)) ∙ ap (fields_of Spo up) p.is ∙ f.is;
      }

  pub made_exactly : upload_count up ≤ most_rows → ExactlyKept up (made_tables up)
  made_exactly few = record { from = made_from; holds = made_holds; once = one_number_lem (made_rows up) (kept_right_lem up few) Spo }
