-- `write_counts` meets its contract: the counts at the values passed are written.
use native.Mathlib.Omega.{arith}
use mathlib.Core.Path.{◌≡◌, refl, ◌∙◌, ap}
use lib.ListN.{set, length-set}
use Rattle.sequences.specs.Sequences.{over}
use Rattle.register_reports.specs.Reporting.{report_words}
use Rattle.register_reports.proofs.Reported.{reported, reported_none, reported_over, reported_whole}
use Rattle.register_reports.proofs.counts.write_counts.Goals as goal

pub loop-value-init : goal.loop-value-init
loop-value-init c = (refl, reported_none c.args.list.now c.args.report.now)

pub loop-value-preserved : goal.loop-value-preserved
loop-value-preserved c =
    let a = c.args in
    let v = c.loop-value.value in
    let put = ap (λ b. set b v c.counted.result) c.loop-value.invariant.1 in
    let said = ap (λ n. set (over (reported a.list.now v) a.report.now) v n) c.counted.ensures in
    ((simp length-set) ∙ c.loop-value.invariant.0, put ∙ said ∙ reported_over a.list.now v a.report.now (omega arith))

pub shape_of-report : goal.shape_of-report
shape_of-report c = c.loop-value.invariant.0

pub returns : goal.returns
returns c =
    let a = c.args in
    let n : c.loop-value.value ≡ report_words = omega arith in
    c.loop-value.invariant.1 ∙ ap (λ k. over (reported a.list.now k) a.report.now) n
    ∙ ap (λ ws. over ws a.report.now) (reported_whole a.list.now)
