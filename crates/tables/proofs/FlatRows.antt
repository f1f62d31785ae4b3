-- Rows written one after the other: their fields, and that right rows that ascend are rows that tables may have.
use Prim.Native.Nat.{ℕ, zero, suc, ◌/◌, ◌≤◌, ◌<◌}
use native.Mathlib.Omega.{arith}
use mathlib.Core.Path.{◌≡◌, refl, sym, ◌∙◌, ap}
use mathlib.Core.Bool.{true}
use mathlib.Core.List.{List, [], flatten}
use lib.ListN.{length, get_or}
use lib.Seq.{ext_get_or}
use Rattle.sequences.specs.Sequences.{lex_before}
use Rattle.sequences.proofs.Flattening.{Wide, length_flatten, wide_at, flatten_at}
use Rattle.tables.specs.declared.Order.TheVariants.{Spo}
use Rattle.tables.specs.Tables.{column_count, most_rows, columns_of, field_of, fields_of, field_right, year_column, year_right}
use Rattle.tables.specs.RowLists.{RowsRight}
use Rattle.tables.proofs.Columns.{fields_length, field_at}

-- the rows' own order has the columns as they stand
pub spo_column : (k : ℕ) → k < column_count → get_or (columns_of Spo) k 0 ≡ k
spo_column zero h = refl
spo_column (suc zero) h = refl
spo_column (suc (suc zero)) h = refl
spo_column (suc (suc (suc zero))) h = refl
spo_column (suc (suc (suc (suc k)))) h = absurd (omega arith)

-- a field of a row by its column
pub own_field : (rows : List ℕ) (row k : ℕ) → k < column_count → get_or (fields_of Spo rows row) k 0 ≡ field_of rows row k
own_field rows row k h = field_at Spo rows row k h ∙ ap (field_of rows row) (spo_column k h)

module _ (xs : List (List ℕ)) (w : Wide column_count xs) where
  pub flat_fields : (r : ℕ) → r < length xs → fields_of Spo (flatten xs) r ≡ get_or xs r []
  flat_fields r h =
      ext_get_or 0 (fields_of Spo (flatten xs) r) (get_or xs r []) (fields_length Spo (flatten xs) r ∙ sym (wide_at column_count xs w r h))
      (λ k l.
      let m = fields_length Spo (flatten xs) r in
      let n : k < column_count = omega arith in
      own_field (flatten xs) r k n ∙ flatten_at column_count xs w r k h n)

  pub flat_count : length (flatten xs) / column_count ≡ length xs
  flat_count = let e = length_flatten column_count xs w in omega arith

-- rows, each with its fields: not too many, of right kinds and years, and strictly ascending
pub record FieldsRight (xs : List (List ℕ)) : Type 0 where
  pub wide : Wide column_count xs
  pub few : length xs ≤ most_rows
  pub kinds : (r c : ℕ) → r < length xs → c < column_count → field_right c (get_or (get_or xs r []) c 0) ≡ true
  pub years : (r : ℕ) → r < length xs → year_right (get_or (get_or xs r []) year_column 0) ≡ true
  pub up : (r : ℕ) → suc r < length xs → lex_before (get_or xs r []) (get_or xs (suc r) []) ≡ true

pub flat_right : (xs : List (List ℕ)) → FieldsRight xs → RowsRight (flatten xs)
flat_right xs f =
    let n = flat_count xs f.wide in
    record {
      whole = let e = length_flatten column_count xs f.wide in omega arith;
      few = let e = f.few in omega arith;
      kinds = λ r c h k. rw (flatten_at column_count xs f.wide r c (omega arith) k) (f.kinds r c (omega arith) k);
      years = λ r h. rw (flatten_at column_count xs f.wide r year_column (omega arith) (omega arith)) (f.years r (omega arith));
      up = λ r h. rw (flat_fields xs f.wide r (omega arith), flat_fields xs f.wide (suc r) (omega arith)) (f.up r (omega arith));
    }
