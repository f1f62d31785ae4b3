-- Tables that differ only in rows that an adviser does not see. Assumes nothing: these are definitions.
use Rattle.std.specs.Prelude.{ℕ, ◌<◌, ◌≡◌, false, List}
use Rattle.tables.specs.declared.Order.TheVariants.{Spo}
use Rattle.tables.specs.Tables.{Tables, row_count, fields_of}
use Rattle.tables.specs.RowLists.{RowIn}
use Rattle.table_answers.specs.Writing.{TableBuffers}
use Rattle.views.specs.Views.{visible}
use Rattle.views.specs.Viewing.{ViewInput}

-- each row that stands in the first tables and not in the second is hidden in the first
abbrev pub HiddenAlone : List ℕ → ℕ → Tables → Tables → Type 0
HiddenAlone grant membership t u =
    (row : ℕ) → row < row_count t → ¬ RowIn u (fields_of Spo t.rows row) → visible t.rows grant membership row ≡ false

-- they differ only in rows that are hidden where they stand
pub record DifferHidden (grant : List ℕ) (membership : ℕ) (t u : Tables) : Type 0 where
  pub first : HiddenAlone grant membership t u
  pub second : HiddenAlone grant membership u t

-- the call for one adviser, with the same buffers, over some tables
abbrev pub lending : List ℕ → ℕ → TableBuffers → Tables → ViewInput
lending grant membership b t = record { tables = t; grant = grant; membership = membership; buffers = b }
