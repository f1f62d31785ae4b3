-- What a served call leaves: tables that the tests accept, which hold exactly the visible rows.
use mathlib.Core.Path.{◌≡◌, ◌∙◌, ap, subst⁻¹}
use mathlib.Core.Option.{none}
use mathlib.Core.List.{List}
use Prim.Native.Nat.{ℕ}
use Rattle.words.specs.Tests.{first_failing}
use Rattle.calls.specs.Calls.{NotRefused}
use Rattle.tables.specs.Tables.{Tables, table_tests}
use Rattle.tables.proofs.MadeTables.{made_accepted}
use Rattle.tables.proofs.RightTables.{right}
use Rattle.table_answers.specs.Writing.{tables_left}
use Rattle.table_answers.proofs.Written.{tables_read}
use Rattle.views.specs.Views.{view_rows, view_of}
use Rattle.views.specs.Viewing.{ViewInput, view_in, view_schema, view_call_of}
use Rattle.views.specs.Exactness.{ExactlyVisible, ViewRight}
use Rattle.views.proofs.Rows.{view_right}
use Rattle.views.proofs.Exact.{view_exactly}
use Rattle.views.proofs.Refusals.{viewed_so}
use Rattle.views.proofs.Writes.{view_suffices}

-- the view itself
pub view_passes : (t : Tables) (grant : List ℕ) (membership : ℕ) → first_failing (table_tests t) ≡ none
    → first_failing (table_tests (view_of t grant membership)) ≡ none
view_passes t grant membership e = made_accepted (view_rows t.rows grant membership) (view_right t grant membership (right t e))

module _ (i : ViewInput) (m : NotRefused view_schema i) where
  pub tables_left_lem : tables_left (view_call_of i) ≡ view_in i
  tables_left_lem = tables_read (view_in i) i.buffers (view_call_of i) (viewed_so i m)

  pub view_leaves : ViewRight i
  view_leaves =
      let e = ((view_suffices i).0 m).accepted in
      record {
        accepted = ap (λ t. first_failing (table_tests t)) tables_left_lem ∙ view_passes i.tables i.grant i.membership e;
        exact = subst⁻¹ (ExactlyVisible i.tables i.grant i.membership) tables_left_lem
            (view_exactly i.tables i.grant i.membership (right i.tables e));
      }
