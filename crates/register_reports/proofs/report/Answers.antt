-- `report` meets its contract: test 7, test 12, and then the counts.
use mathlib.Core.Path.{sym, ◌∙◌}
use lib.ListN.{take}
use lib.Seq.{length-take-le}
use borrow.Author.Tests.{not-true, not-false}
use Rattle.calls.proofs.Refusals.{call_told}
use Rattle.register_reports.specs.Reporting.{report_schema}
use Rattle.register_reports.proofs.Refusals.{report_is_right}
use Rattle.register_reports.proofs.Answers.{kept_short, no_room, given_long, no_registers, counts_written}
use Rattle.register_reports.proofs.report.Goals as goal

pub returns-then-report-lt-REPORT_WORDS : goal.returns-then-report-lt-REPORT_WORDS
returns-then-report-lt-REPORT_WORDS c = let a = c.args in
    let shown = call_told report_schema report_is_right _ (no_room a.kept.now a.given a.report.now c.if-report-lt-REPORT_WORDS.true) in
    record { report_after = shown.0; number = shown.1 }

pub returns-then-kept-given : goal.returns-then-kept-given
returns-then-kept-given c = let a = c.args in
    let shown = call_told report_schema report_is_right _ (given_long a.kept.now a.given a.report.now c.if-report-lt-REPORT_WORDS.false c.if-kept-given.true) in
    record { report_after = shown.0; number = shown.1 }

pub slice_bounds-list-end : goal.slice_bounds-list-end
slice_bounds-list-end c =
    let a = c.args in
    sym (length-take-le a.given a.kept.now c.if-kept-given.false)

pub returns-then-not-kept_registers : goal.returns-then-not-kept_registers
returns-then-not-kept_registers c = let a = c.args in
    let shown = call_told report_schema report_is_right _
    (no_registers a.kept.now a.given a.report.now c.if-report-lt-REPORT_WORDS.false c.if-kept-given.false
    (sym c.kept_registers.ensures ∙ not-true _ c.if-not-kept_registers.true-raw)) in
    record { report_after = shown.0; number = shown.1 }

pub write_counts-requires : goal.write_counts-requires
write_counts-requires c = let a = c.args in
    record {
      list_len_bound = kept_short (take a.given a.kept.now) (sym c.kept_registers.ensures ∙ not-false _ c.if-not-kept_registers.false-raw);
      report_words_in_bounds = c.if-report-lt-REPORT_WORDS.false;
    }

pub returns : goal.returns
returns c = let a = c.args in
    let shown = call_told report_schema report_is_right _
    (counts_written a.kept.now a.given a.report.now c.if-report-lt-REPORT_WORDS.false c.if-kept-given.false
    (sym c.kept_registers.ensures ∙ not-false _ c.if-not-kept_registers.false-raw) c.write_counts.ensures) in
    record { report_after = shown.0; number = shown.1 }
