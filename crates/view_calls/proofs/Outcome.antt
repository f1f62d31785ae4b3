-- The outcome of the view call, test by test.
use Prim.Native.Nat.{ℕ}
use mathlib.Core.Path.{◌≡◌, sym, ◌∙◌, ap}
use mathlib.Core.Bool.{true, false}
use mathlib.Core.Option.{none}
use lib.ListN.{length}
use Rattle.words.specs.Tests.{first_failing, number_of}
use Rattle.words.proofs.Numbering.{front_fails, rest_decides}
use Rattle.calls.specs.Calls.{result_by_number, result_of_call}
use Rattle.tables.specs.Tables.{table_tests}
use Rattle.table_answers.specs.declared.TablesWritten.TheVariants.{Refused}
use Rattle.table_answers.specs.Writing.{tables_room, written_with}
use Rattle.table_answers.specs.Counts.{tables_room_for}
use Rattle.table_answers.proofs.Rooms.{room_counted}
use Rattle.views.specs.Viewing.{ViewInput, view_in, grant_right, view_own_tests, view_schema, view_call_of}
use Rattle.views.specs.Refusals.{seen_in}
use Rattle.views.proofs.Writes.{view_counts}

module _ (i : ViewInput) where
  -- ---- the tables
  pub wrong_tables : (n : ℕ) → n ≡ number_of (first_failing (table_tests i.tables)) → (n ≡ 0 → ⊥)
      → record { answer = Refused n; buffers = i.buffers } ≡ view_call_of i
  unfolding result_of_call
  wrong_tables n e h = sym (ap (result_by_number view_schema i) (front_fails (table_tests i.tables) (view_own_tests i) n e h))

  module _ (t : first_failing (table_tests i.tables) ≡ none) where
    own : view_call_of i ≡ result_by_number view_schema i (first_failing (view_own_tests i))
    unfolding result_of_call
    own = ap (result_by_number view_schema i) (rest_decides (table_tests i.tables) (view_own_tests i) t)

    -- ---- 20
    pub wrong_grant : grant_right i.grant ≡ false → record { answer = Refused 20; buffers = i.buffers } ≡ view_call_of i
    unfolding first_failing
    wrong_grant e = sym (own ∙ rw e)

    -- ---- 21, as the code tests it
    module _ (g : grant_right i.grant ≡ true) (seen : ℕ) (s : seen ≡ seen_in i) where
      room_is : tables_room_for seen (length i.buffers.rows) (length i.buffers.pos) (length i.buffers.osp) ≡ tables_room (view_in i) i.buffers
      room_is = rw s (room_counted (view_in i) i.buffers (seen_in i) (view_counts i))

      pub no_room : tables_room_for seen (length i.buffers.rows) (length i.buffers.pos) (length i.buffers.osp) ≡ false
          → record { answer = Refused 21; buffers = i.buffers } ≡ view_call_of i
      unfolding first_failing
      no_room e = sym (own ∙ rw (g, sym room_is ∙ e))

      pub served : tables_room_for seen (length i.buffers.rows) (length i.buffers.pos) (length i.buffers.osp) ≡ true
          → written_with (view_in i) i.buffers ≡ view_call_of i
      unfolding first_failing
      served e = sym (own ∙ rw (g, sym room_is ∙ e))
