-- A report is a right call: so demand 1 holds of it, for every input.
use mathlib.Core.Path.{refl}
use Rattle.calls.specs.Calls.{RightCall, CallRefusals}
use Rattle.calls.proofs.Refusals.{call_refusals}
use Rattle.calls.proofs.Words.{words_right}
use Rattle.register_reports.specs.Reporting.{ReportInput, reported_words, report_tests, report_schema}

pub report_is_right : RightCall report_schema
report_is_right = words_right report_tests _ _ reported_words (λ i. refl)

pub report_refusals : (i : ReportInput) → CallRefusals report_schema i
report_refusals i = call_refusals report_schema report_is_right i
