-- `counted_none` meets its contract: all registers of an empty list have 0.
use mathlib.Core.Path.{sym, ◌∙◌, ap}
use mathlib.Core.List.{[]}
use Rattle.registers.specs.Registers.{registers_in, count_at}
use Rattle.register_reports.proofs.Counting.{zeros_counted, none_counted}
use Rattle.register_reports.proofs.counts.counted_none.Goals as goal

pub returns-then-value-eq0 : goal.returns-then-value-eq0
returns-then-value-eq0 c = sym (ap (λ v. count_at v (registers_in [])) c.if-value-eq0.true ∙ zeros_counted)

pub returns : goal.returns
returns c = sym (none_counted c.args.value c.if-value-eq0.false)
