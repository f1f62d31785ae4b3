-- `counted` meets its contract, by whether the list is empty.
use mathlib.Core.Path.{sym, ◌∙◌, ap}
use Rattle.registers.specs.Registers.{count_at}
use Rattle.list_registers.proofs.Merged.{some_in}
use Rattle.register_reports.proofs.Counting.{no_registers}
use lib.ListN.{length}
use Rattle.std.proofs.lemmas.Bool.{eqb-true, eqb-false}
use Rattle.register_reports.proofs.counts.counted.Goals as goal

pub returns-then-is_empty : goal.returns-then-is_empty
returns-then-is_empty c =
    let a = c.args in
    let none = eqb-true (length a.list.now) 0 (sym c.is_empty.ensures ∙ c.if-is_empty.true) in
    c.counted_none.ensures ∙ sym (ap (count_at a.value) (no_registers a.list.now none))

pub returns : goal.returns
returns c =
    let a = c.args in
    let some = eqb-false (length a.list.now) 0 (sym c.is_empty.ensures ∙ c.if-is_empty.false) in
    c.count_at.ensures ∙ sym (ap (count_at a.value) (some_in a.list.now some))
