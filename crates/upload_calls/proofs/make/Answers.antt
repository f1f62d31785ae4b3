-- `make` meets its contract.
use Prim.Native.Nat.{ℕ, ◌+◌, ◌/◌, ◌≤◌}
use native.Mathlib.Omega.{arith}
use mathlib.Core.Path.{◌≡◌}
use lib.ListN.{length, replicate, length-replicate}
use Rattle.calls.proofs.Refusals.{call_told}
use Rattle.tables.specs.Tables.{most_rows}
use Rattle.uploads.specs.Making.{MakeInput, make_input, make_schema}
use Rattle.uploads.proofs.Refusals.{make_is_right}
use Rattle.uploads.proofs.Writes.{upload_right_lem}
use Rattle.upload_calls.proofs.Outcome.{upload_parts, upload_many, wrong_upload}
use Rattle.upload_calls.proofs.make.Goals as goal
use Rattle.upload_calls.proofs.make.Goals.{Start}

-- half of the most rows, twice
enough : (n : ℕ) → n ≡ most_rows / 2 → most_rows ≤ n + n
enough n e = omega arith

abbrev lent : Start → MakeInput
lent s = make_input s.args.upload.now s.args.rows.now s.args.pos.now s.args.osp.now s.args.report.now

pub returns-then-upload-ne0 : goal.returns-then-upload-ne0
returns-then-upload-ne0 c =
    let shown = call_told make_schema make_is_right (lent (goal.at.returns-then-upload-ne0 c).Start)
    (wrong_upload (lent (goal.at.returns-then-upload-ne0 c).Start) (upload_parts c.args.upload.now c.if-upload-ne0.true)) in
    record { report_after = shown.0; number = shown.1 }

pub returns-then-upload-gt-MOST_ROWS : goal.returns-then-upload-gt-MOST_ROWS
returns-then-upload-gt-MOST_ROWS c =
    let shown = call_told make_schema make_is_right (lent (goal.at.returns-then-upload-gt-MOST_ROWS c).Start)
    (wrong_upload (lent (goal.at.returns-then-upload-gt-MOST_ROWS c).Start)
    (upload_many c.args.upload.now c.if-upload-ne0.false c.if-upload-gt-MOST_ROWS.true)) in
    record { report_after = shown.0; number = shown.1 }

pub make_within-requires : goal.make_within-requires
make_within-requires c = let n = length-replicate {A = ℕ} most_rows 0 in
    record {
      upload_value = upload_right_lem c.args.upload.now c.if-upload-ne0.false c.if-upload-gt-MOST_ROWS.false;
      list_len =
          (n, n, enough (length {A = ℕ} (replicate (most_rows / 2) 0)) (length-replicate {A = ℕ} (most_rows / 2) 0));
    }

pub returns : goal.returns
returns c =
    let shown = call_told make_schema make_is_right (lent (goal.at.returns c).Start) c.make_within.ensures in
    record { report_after = shown.0; number = shown.1 }
