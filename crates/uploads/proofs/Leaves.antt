-- What a served call leaves: tables that the tests accept, which hold exactly the kept rows, and a report of exactly the dropped rows.
use Prim.Native.Nat.{ℕ, ◌≤◌}
use mathlib.Core.Path.{◌≡◌, ◌∙◌, ap, subst⁻¹}
use mathlib.Core.Option.{none}
use mathlib.Core.List.{List}
use Rattle.words.specs.Tests.{first_failing}
use Rattle.sequences.proofs.Buffers.{take_over}
use Rattle.calls.specs.Calls.{NotRefused}
use Rattle.tables.specs.Tables.{Tables, most_rows, table_tests}
use Rattle.tables.proofs.MadeTables.{made_accepted}
use Rattle.uploads.specs.Uploads.{upload_count, made_rows, made_tables, dropped_report}
use Rattle.uploads.specs.Making.{MakeInput, MadeBuffers, made_with, make_schema, make_of}
use Rattle.uploads.specs.Exactness.{tables_made, report_in, ExactlyKept, Reported, MadeRight}
use Rattle.uploads.proofs.Kept.{kept_right_lem}
use Rattle.uploads.proofs.Exact.{made_exactly}
use Rattle.uploads.proofs.Reported.{report_exactly}
use Rattle.uploads.proofs.Refusals.{made_so}
use Rattle.uploads.proofs.Writes.{make_suffices}

-- the made tables themselves
pub made_passes : (up : List ℕ) → upload_count up ≤ most_rows → first_failing (table_tests (made_tables up)) ≡ none
made_passes up few = made_accepted (made_rows up) (kept_right_lem up few)

-- what is read back from the buffers
read_tables : (t : Tables) (report : List ℕ) (b : MadeBuffers) → tables_made (made_with t report b) ≡ t
read_tables t report b = rw (take_over t.rows b.rows, take_over t.pos b.pos, take_over t.osp b.osp)

module _ (i : MakeInput) (m : NotRefused make_schema i) where
  pub tables_left_lem : tables_made (make_of i) ≡ made_tables i.upload
  tables_left_lem = ap tables_made (made_so i m) ∙ read_tables (made_tables i.upload) (dropped_report i.upload) i.buffers

  pub report_left : report_in (make_of i) ≡ dropped_report i.upload
  report_left = ap report_in (made_so i m) ∙ take_over (dropped_report i.upload) i.buffers.report

  few : upload_count i.upload ≤ most_rows
  few = ((make_suffices i).0 m).few

  pub make_right : MadeRight i
  make_right =
      record {
        accepted = ap (λ t. first_failing (table_tests t)) tables_left_lem ∙ made_passes i.upload few;
        exact = subst⁻¹ (ExactlyKept i.upload) tables_left_lem (made_exactly i.upload few);
        told = subst⁻¹ (Reported i.upload) report_left (report_exactly i.upload);
      }
