-- When the view call is served, in counts of rows, and what it then writes. Assumes nothing: these are definitions.
use Rattle.std.specs.Prelude.{ℕ, ◌≡◌, true}
use Rattle.std.proofs.Math.Option.{none}
use Rattle.words.specs.Tests.{first_failing}
use Rattle.tables.specs.Tables.{table_tests}
use Rattle.table_answers.specs.Counts.{TablesFit, TablesOver}
use Rattle.views.specs.Views.{view_count}
use Rattle.views.specs.Viewing.{ViewInput, view_in, grant_right, view_call_of}

-- how many rows are visible
abbrev pub seen_in : ViewInput → ℕ
seen_in i = view_count i.tables.rows i.grant i.membership

-- accepted tables, a right grant, and buffers that are no shorter than what is written: so their exact lengths are enough
pub record ViewSuffices (i : ViewInput) : Type 0 where
  pub accepted : first_failing (table_tests i.tables) ≡ none
  pub grant : grant_right i.grant ≡ true
  pub room : TablesFit (seen_in i) i.buffers

-- a served call writes the view's tables over the first words of the buffers, and counts them
abbrev pub ViewWrites : ViewInput → Type 0
ViewWrites i = TablesOver (view_in i) (seen_in i) i.buffers (view_call_of i)
