-- The tables: rows and two lists of row numbers, the three orders that they make, and tests 1, 2, 23, 3 and 4.
-- Assumes nothing: these are definitions.
use Rattle.std.specs.Prelude.{ℕ, suc, ◌+◌, ◌-◌, ◌*◌, ◌/◌, ◌%◌, List, [], ◌∷◌, map, Bool, cond, ◌&&◌, length, get_or, eqb, ltb, leb}
use Rattle.words.specs.Words.{term_kind, term_value, number, name_kind, number_kind, variable_kind, most_year}
use Rattle.sequences.specs.Sequences.{all, all_below, lex_before}
use Rattle.words.specs.Tests.{Test}
use Rattle.tables.specs.declared.Order.{Order}
use Rattle.tables.specs.declared.Order.TheVariants.{Spo, Pos, Osp}

-- rows, of four words each; the row numbers in the orders POS and OSP
pub record Tables : Type 0 where
  pub rows : List ℕ
  pub pos : List ℕ
  pub osp : List ℕ

abbrev pub tables_of : List ℕ → List ℕ → List ℕ → Tables
tables_of rows pos osp = record { rows = rows; pos = pos; osp = osp }

-- the rows of one year, which the levels of a run read: the tables, and the word that these rows begin with
pub record Section : Type 0 where
  pub tables : Tables
  pub year : ℕ

abbrev pub section : Tables → ℕ → Section
section t year = record { tables = t; year = number year }

abbrev pub section_of : List ℕ → List ℕ → List ℕ → ℕ → Section
section_of rows pos osp word = record { tables = tables_of rows pos osp; year = word }

-- ---- rows
-- the columns of a row, and how many there are
abbrev pub year_column : ℕ
year_column = 0

abbrev pub subject_column : ℕ
subject_column = 1

abbrev pub predicate_column : ℕ
predicate_column = 2

abbrev pub object_column : ℕ
object_column = 3

abbrev pub column_count : ℕ
column_count = 4

abbrev pub most_rows : ℕ
most_rows = 65536

abbrev pub row_count : Tables → ℕ
row_count t = length t.rows / column_count

abbrev pub field_of : List ℕ → ℕ → ℕ → ℕ
field_of rows row column = get_or rows (row * column_count + column) 0

-- ---- orders
-- the columns that an order compares, first to last: the year is the first of each
abbrev pub columns_of : Order → List ℕ
columns_of Spo = year_column ∷ subject_column ∷ predicate_column ∷ object_column ∷ []
columns_of Pos = year_column ∷ predicate_column ∷ object_column ∷ subject_column ∷ []
columns_of Osp = year_column ∷ object_column ∷ subject_column ∷ predicate_column ∷ []

-- a row's fields in the sequence of an order
unfoldable pub fields_of : Order → List ℕ → ℕ → List ℕ
fields_of o rows row = map (field_of rows row) (columns_of o)

-- the row at a place of an order
abbrev pub row_at : Order → Tables → ℕ → ℕ
row_at Spo t place = place
row_at Pos t place = get_or t.pos place 0
row_at Osp t place = get_or t.osp place 0

abbrev pub fields_at : Order → Tables → ℕ → List ℕ
fields_at o t place = fields_of o t.rows (row_at o t place)

-- ---- the tests
unfoldable pub lengths_right : Tables → Bool
lengths_right t =
    eqb (length t.rows % column_count) 0
    && (eqb (length t.pos) (row_count t) && (eqb (length t.osp) (row_count t) && leb (row_count t) most_rows))

-- a year is a number, subject and predicate are names; an object is anything but a variable
abbrev pub field_right : ℕ → ℕ → Bool
field_right column w =
    cond (eqb column object_column) (ltb (term_kind w) variable_kind)
    (cond (eqb column year_column) (eqb (term_kind w) number_kind) (eqb (term_kind w) name_kind))

-- each field of the row that starts at `word` has a kind that its column may have
unfoldable pub row_right : List ℕ → ℕ → Bool
row_right rows word = all_below (λ column. field_right column (get_or rows (word + column) 0)) column_count

unfoldable pub kinds_right : Tables → Bool
kinds_right t = all_below (λ row. row_right t.rows (row * column_count)) (row_count t)

-- a year is from 1 to the last, by its unsigned bits
abbrev pub year_right : ℕ → Bool
year_right w = leb 1 (term_value w) && leb (term_value w) most_year

unfoldable pub years_right : Tables → Bool
years_right t = all_below (λ row. year_right (field_of t.rows row year_column)) (row_count t)

-- the fields ascend strictly from each place to the next
unfoldable pub ascends : Order → Tables → Bool
ascends o t = all_below (λ place. lex_before (fields_at o t place) (fields_at o t (suc place))) (row_count t - 1)

-- each number of a list names a row
unfoldable pub names_rows : Tables → List ℕ → Bool
names_rows t list = all (λ row. ltb row (row_count t)) list

abbrev pub lists_right : Tables → Bool
lists_right t = names_rows t t.pos && (names_rows t t.osp && (ascends Pos t && ascends Osp t))

abbrev pub table_tests : Tables → List Test
table_tests t = (1, lengths_right t) ∷ (2, kinds_right t) ∷ (23, years_right t) ∷ (3, ascends Spo t) ∷ (4, lists_right t) ∷ []
