-- Non-interference of the call: for accepted tables that differ only in rows that are hidden where they stand it answers and writes the same.
use Prim.Native.Nat.{ℕ}
use mathlib.Core.Path.{◌≡◌, refl, sym, ◌∙◌, ap}
use mathlib.Core.Option.{Option, none, some}
use mathlib.Core.List.{List, [], ◌∷◌}
use Rattle.words.specs.Tests.{first_failing}
use Rattle.words.proofs.Numbering.{rest_decides}
use Rattle.calls.specs.Calls.{result_by_number, result_of_call}
use Rattle.tables.specs.Tables.{Tables, table_tests}
use Rattle.table_answers.specs.declared.TablesWritten.TheVariants.{Refused}
use Rattle.table_answers.specs.Writing.{TableBuffers, tables_room, TablesResult, written_with}
use Rattle.views.specs.Views.{view_of}
use Rattle.views.specs.Viewing.{grant_right, view_own_tests, view_schema, view_call_of}
use Rattle.views.specs.Hidden.{DifferHidden, lending}
use Rattle.views.proofs.Hiding.{same_view}

module _ (grant : List ℕ) (membership : ℕ) (b : TableBuffers) where
  -- what a call with accepted tables answers and writes, by the view alone
  abbrev outcome : Tables → Option ℕ → TablesResult
  outcome v (some n) = record { answer = Refused n; buffers = b }
  outcome v none = written_with v b

  abbrev by : Tables → TablesResult
  by v = outcome v (first_failing ((20, grant_right grant) ∷ (21, tables_room v b) ∷ []))

  by_view : (t : Tables) → first_failing (table_tests t) ≡ none → view_call_of (lending grant membership b t) ≡ by (view_of t grant membership)
  unfolding result_of_call
  by_view t e =
      ap (result_by_number view_schema (lending grant membership b t)) (rest_decides (table_tests t) (view_own_tests (lending grant membership b t)) e)
      ∙ go (first_failing (view_own_tests (lending grant membership b t)))
    where
      go : (o : Option ℕ) → result_by_number view_schema (lending grant membership b t) o ≡ outcome (view_of t grant membership) o
      go none = refl
      go (some n) = refl

  pub same_calls : (t u : Tables) → first_failing (table_tests t) ≡ none → first_failing (table_tests u) ≡ none → DifferHidden grant membership t u
      → view_call_of (lending grant membership b t) ≡ view_call_of (lending grant membership b u)
  same_calls t u p q d = by_view t p ∙ ap by (same_view grant membership t u p q d) ∙ sym (by_view u q)
