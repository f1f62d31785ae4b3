-- A served report writes its counts over the first words of its buffer, which has room for them; there are 62, and they make 16.
use Prim.Native.Nat.{◌≤◌}
use native.Mathlib.Omega.{arith}
use mathlib.Core.Path.{◌≡◌, sym, ◌∙◌, ap}
use mathlib.Core.Bool.{true}
use lib.Dec.{leb}
use lib.ListN.{length, take}
use borrow.Author.Tests.{leb-true}
use Rattle.words.specs.Answers.{words_in}
use Rattle.sequences.proofs.Booleans.{and_right}
use Rattle.calls.specs.Calls.{NotRefused}
use Rattle.calls.specs.Words.{WordsResult, written_over}
use Rattle.calls.proofs.Refusals.{call_so, call_passed}
use Rattle.calls.proofs.Words.{words_over}
use Rattle.registers.specs.Registers.{kept_registers, total}
use Rattle.registers.proofs.Reports.{report_length, report_makes}
use Rattle.register_reports.specs.Reporting.{ReportInput, ReportWrites, given_registers, report_words, reported_words, report_schema, report_of}
use Rattle.register_reports.proofs.Refusals.{report_is_right}

module _ (i : ReportInput) (h : NotRefused report_schema i) where
  reported_so : report_of i ≡ written_over (reported_words i) i.report
  reported_so = call_so report_schema report_is_right i h

  -- test 7
  report_room : length (reported_words i) ≤ length i.report
  report_room =
      omega (arith, report_length (given_registers i), leb-true report_words (length i.report) (call_passed report_schema report_is_right i 7 h))

  -- test 12
  given_right_lem : kept_registers (given_registers i) ≡ true
  given_right_lem =
      and_right (leb i.given (length i.kept)) (kept_registers (given_registers i)) (call_passed report_schema report_is_right i 12 h)

  pub report_writes : ReportWrites i
  report_writes =
      let written = words_over (reported_words i) i.report (report_of i) reported_so report_room in
      let counts = ap (λ (r : WordsResult). words_in r.answer) reported_so ∙ report_length (given_registers i) in
      record {
        report = written;
        counts = counts;
        whole = ap (λ n. total (take n (report_of i).buffers)) (sym counts)
            ∙ ap total written.buffer.front ∙ report_makes (given_registers i) given_right_lem;
      }
