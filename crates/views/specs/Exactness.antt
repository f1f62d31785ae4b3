-- What a served call leaves: tables that the tests accept, which hold exactly the visible rows. Assumes nothing: these are definitions.
use Rattle.std.specs.Prelude.{ℕ, ◌<◌, ◌≡◌, true, List}
use Rattle.std.proofs.Math.Option.{none}
use Rattle.words.specs.Tests.{first_failing}
use Rattle.tables.specs.declared.Order.TheVariants.{Spo}
use Rattle.tables.specs.Tables.{Tables, row_count, fields_of, table_tests}
use Rattle.tables.specs.RowLists.{RowIn}
use Rattle.table_answers.specs.Writing.{tables_left}
use Rattle.views.specs.Views.{visible}
use Rattle.views.specs.Viewing.{ViewInput, view_call_of}

-- a visible row of some tables has these fields
pub record VisibleRow (t : Tables) (grant : List ℕ) (membership : ℕ) (fields : List ℕ) : Type 0 where
  pub row : ℕ
  pub there : row < row_count t
  pub passes : visible t.rows grant membership row ≡ true
  pub is : fields_of Spo t.rows row ≡ fields

-- some tables hold exactly the visible rows of others
pub record ExactlyVisible (t : Tables) (grant : List ℕ) (membership : ℕ) (v : Tables) : Type 0 where
  pub from : (row : ℕ) → row < row_count v → VisibleRow t grant membership (fields_of Spo v.rows row)
  pub holds : (row : ℕ) → row < row_count t → visible t.rows grant membership row ≡ true → RowIn v (fields_of Spo t.rows row)
  -- and no two are the same
  pub once : (j i : ℕ) → j < row_count v → i < row_count v → fields_of Spo v.rows j ≡ fields_of Spo v.rows i → j ≡ i

-- ---- what a served call leaves
pub record ViewRight (i : ViewInput) : Type 0 where
  -- the tests accept the tables
  pub accepted : first_failing (table_tests (tables_left (view_call_of i))) ≡ none
  pub exact : ExactlyVisible i.tables i.grant i.membership (tables_left (view_call_of i))
