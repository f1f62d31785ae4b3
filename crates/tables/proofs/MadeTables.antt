-- The tables of rows that tables may have are right: the tests accept them.
use Prim.Native.Nat.{ℕ, suc, ◌-◌, ◌/◌, ◌<◌}
use native.Mathlib.Omega.{arith}
use mathlib.Core.Path.{◌≡◌}
use mathlib.Core.Bool.{true}
use mathlib.Core.Option.{none}
use mathlib.Core.List.{List}
use lib.ListN.{length, get_or}
use Rattle.sequences.specs.Sequences.{lex_before, numbers}
use Rattle.words.specs.Tests.{first_failing}
use Rattle.sequences.proofs.Booleans.{Decided, yes, no, decided}
use Rattle.sequences.proofs.Ascending.{Ascending}
use Rattle.sequences.proofs.Numbers.{numbers_rise}
use Rattle.sequences.proofs.SortedNumbers.{totally, sort_ascends}
use Rattle.sequences.proofs.Neighbours.{neighbour_same}
use Rattle.tables.specs.declared.Order.{Order}
use Rattle.tables.specs.declared.Order.TheVariants.{Spo, Pos, Osp}
use Rattle.tables.specs.Tables.{column_count, fields_of, row_at, fields_at, table_tests}
use Rattle.tables.specs.Right.{Right}
use Rattle.tables.specs.RowLists.{number_before, row_numbers, tables_from, RowsRight}
use Rattle.tables.proofs.Columns.{fields_length}
use Rattle.tables.proofs.RightTables.{accepted}
use Rattle.tables.proofs.RowNumbers.{list_length, list_named}
use Rattle.tables.proofs.Sorted.{Sorted}
use Rattle.tables.proofs.Sorted as sorted

-- rows that are the same in one order are the same in the rows' own
spo_of : (o : Order) (rows : List ℕ) (j i : ℕ) → fields_of o rows j ≡ fields_of o rows i → fields_of Spo rows j ≡ fields_of Spo rows i
unfolding fields_of
spo_of Spo rows j i e = e
spo_of Pos rows j i e = cc
spo_of Osp rows j i e = cc

module _ (rows : List ℕ) (r : RowsRight rows) where
  abbrev count : ℕ
  count = length rows / column_count

  own_sorted : Sorted column_count count (fields_of Spo rows)
  own_sorted = record { width = λ row h. fields_length Spo rows row; up = r.up }

  -- no two rows are the same, in any order
  module _ (o : Order) where
    pub one_number_lem : (j i : ℕ) → j < length rows / column_count → i < length rows / column_count → fields_of o rows j ≡ fields_of o rows i → j ≡ i
    one_number_lem j i h l e = sorted.one_fields column_count count (fields_of Spo rows) own_sorted j i h l (spo_of o rows j i e)

    list_ascends : Ascending (totally (fields_of o rows) column_count (fields_length o rows)) (row_numbers o rows)
    unfolding row_numbers
    list_ascends = sort_ascends (fields_of o rows) column_count (fields_length o rows) (numbers count) (numbers_rise count)

    abbrev at : ℕ → ℕ
    at place = get_or (row_numbers o rows) place 0

    list_up : (place : ℕ) → suc place < length rows / column_count → number_before o rows (at place) (at (suc place)) ≡ true
    list_up place h = go (decided (number_before o rows (at place) (at (suc place))))
      where
        go : Decided (number_before o rows (at place) (at (suc place))) → number_before o rows (at place) (at (suc place)) ≡ true
        go (yes p) = p
        go (no p) =
            let z : suc place - 1 ≡ place = omega arith in
            let n = neighbour_same (fields_of o rows) column_count (fields_length o rows) (row_numbers o rows) list_ascends (suc place) (omega arith)
            (omega (arith, list_length o rows)) (rw z p) in
            let a = list_named o rows place (omega arith) in
            let b = list_named o rows (suc place) h in
            absurd (let e : at (suc place - 1) ≡ at (suc place) = one_number_lem (at (suc place - 1)) (at (suc place)) (rw z a) b n.1 in omega (arith, n.0))

  pub made_right : Right (tables_from rows)
  made_right =
      record {
        sized = record { whole = r.whole; few = r.few; pos_length = list_length Pos rows; osp_length = list_length Osp rows };
        kinds = r.kinds;
        years = r.years;
        named = named;
        up = up;
      }
    where
      named : (o : Order) (place : ℕ) → place < count → row_at o (tables_from rows) place < count
      named Spo place h = h
      named Pos place h = list_named Pos rows place h
      named Osp place h = list_named Osp rows place h

      up : (o : Order) (place : ℕ) → suc place < count
          → lex_before (fields_at o (tables_from rows) place) (fields_at o (tables_from rows) (suc place)) ≡ true
      up Spo place h = r.up place h
      up Pos place h = list_up Pos place h
      up Osp place h = list_up Osp place h

  pub made_accepted : first_failing (table_tests (tables_from rows)) ≡ none
  made_accepted = accepted (tables_from rows) made_right
