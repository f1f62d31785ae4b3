-- What the walk over the three orders finds, in the parts that its functions answer. Assumes nothing: these are definitions.
use Rattle.std.specs.Prelude.{ℕ, zero, suc, ◌+◌, ◌-◌, ◌*◌, ◌/◌, ◌<◌, ◌≡◌, Bool, cond, ◌&&◌, List, [], ◌∷◌, ltb, length, get_or, Option, Some, None}
use Rattle.sequences.specs.Sequences.{all_below, lex_before}
use Rattle.tables.specs.declared.Order.{Order}
use Rattle.tables.specs.declared.Order.TheVariants.{Spo, Pos, Osp}
use Rattle.tables.specs.Tables.{Tables, column_count, row_count, row_at, field_of}
use Rattle.tables.specs.Tables.{year_column, subject_column, predicate_column, object_column}

-- the orders in the sequence of the walk
abbrev pub order_at : ℕ → Order
order_at zero = Spo
order_at (suc zero) = Pos
order_at (suc (suc n)) = Osp

abbrev pub order_count : ℕ
order_count = 3

-- two words as a long one
abbrev pub long_of : ℕ → ℕ → ℕ
long_of first second = first * 4294967296 + second

-- the words of a list are words
abbrev pub Words : List ℕ → Type 0
Words rows = (at : ℕ) → get_or rows at 0 < 4294967296

-- how many long words the walk compares of a row
abbrev pub key_count : ℕ
key_count = 2

-- a row's year where it is compared, and nothing in its place where all are alike
abbrev pub year_read : Bool → List ℕ → ℕ → ℕ
year_read alike rows row = cond alike 0 (field_of rows row year_column)

-- what the walk compares of a row, two words as one: the fields that an order compares first, and in the lists then its number. Where the rows
-- ascend in their own order, which is walked first, rows that are the same in those fields stand in the order of their numbers
unfoldable pub keys_of : Bool → Order → List ℕ → ℕ → List ℕ
keys_of alike Spo rows row =
    long_of (field_of rows row year_column) (field_of rows row subject_column)
    ∷ long_of (field_of rows row predicate_column) (field_of rows row object_column)
    ∷ []
keys_of alike Pos rows row = long_of (year_read alike rows row) (field_of rows row predicate_column) ∷ long_of (field_of rows row object_column) row ∷ []
keys_of alike Osp rows row = long_of 0 (year_read alike rows row) ∷ long_of (field_of rows row object_column) row ∷ []

abbrev pub keys_at : Bool → Order → Tables → ℕ → List ℕ
keys_at alike o t place = keys_of alike o t.rows (row_at o t place)

-- a place of an order as the walk reads it: the keys of the row that it names, none where it names no row
abbrev pub reading_at : Bool → Tables → Order → ℕ → Option (List ℕ)
reading_at alike t o place = cond (ltb (row_at o t place) (row_count t)) (Some (keys_at alike o t place)) None

-- the first n places of an order name rows, and their keys ascend strictly
unfoldable pub right_upto : Bool → Tables → Order → ℕ → Bool
right_upto alike t o n =
    all_below (λ place. ltb (row_at o t place) (row_count t)) n
    && all_below (λ place. lex_before (keys_at alike o t place) (keys_at alike o t (suc place))) (n - 1)

abbrev pub order_right : Bool → Tables → Order → Bool
order_right alike t o = right_upto alike t o (row_count t)

-- all rows have one year
abbrev pub OneYear : List ℕ → Type 0
OneYear rows = (a b : ℕ) → a < length rows / column_count → b < length rows / column_count → field_of rows a year_column ≡ field_of rows b year_column

-- how many orders are right before the first that is not
unfoldable pub right_orders : Bool → Tables → ℕ
right_orders alike t =
    cond (order_right alike t Spo) (cond (order_right alike t Pos) (cond (order_right alike t Osp) order_count 2) 1) 0
