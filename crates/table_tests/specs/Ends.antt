-- What stands last in the rows and in both lists. Assumes nothing: these are definitions.
use Rattle.std.specs.Prelude.{ℕ, ◌-◌, ◌<◌, ◌≡◌, Bool, true, ◌&&◌, leb, ltb}
use Rattle.words.specs.Words.{number, variable, most_year}
use Rattle.tables.specs.declared.Order.{Order}
use Rattle.tables.specs.declared.Order.TheVariants.{Spo, Pos, Osp}
use Rattle.tables.specs.Tables.{Tables, row_count, row_at, field_of, year_column, subject_column, predicate_column, object_column}
use Rattle.table_walk_keys.specs.Walk.{order_count}

-- the words of a year, a subject, a predicate and an object are right
abbrev pub bounds_fine : ℕ → ℕ → ℕ → ℕ → Bool
bounds_fine year subject predicate object =
    leb (number 1) year
    && (leb year (number most_year) && (ltb subject (number 0) && (ltb predicate (number 0) && ltb object (variable 0))))

-- the row that an order has last
abbrev pub row_of_last : Order → Tables → ℕ
row_of_last o t = row_at o t (row_count t - 1)

-- each order's last place names a row
abbrev pub LastNamed : Tables → Type 0
LastNamed t = (o : Order) → row_of_last o t < row_count t

-- the year and the subject that the rows have last, and the predicate and the object that POS and OSP have last, are right
abbrev pub ends_fine : Tables → Bool
ends_fine t =
    bounds_fine (field_of t.rows (row_of_last Spo t) year_column) (field_of t.rows (row_of_last Spo t) subject_column)
    (field_of t.rows (row_of_last Pos t) predicate_column) (field_of t.rows (row_of_last Osp t) object_column)

-- tables of one year, all of whose orders are right, pass by what stands last in them
pub record Passing (alike : Bool) (orders : ℕ) (t : Tables) : Type 0 where
  pub one : alike ≡ true
  pub all_right : orders ≡ order_count
  pub ends : ends_fine t ≡ true
