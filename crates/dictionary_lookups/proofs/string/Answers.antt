-- `string` meets its contract.
use mathlib.Core.Path.{sym, ap₂, ◌∙◌}
use borrow.Author.Tests.{not-true, not-false}
use Rattle.dictionary_lookups.specs.declared.StringBounds.TheVariants.{Part}
use Rattle.dictionary_lookups.specs.Lending.{string_input}
use Rattle.dictionary_lookups.proofs.Lending.{bounds_within, bounds_past, string_refused, string_served}
use Rattle.dictionary_lookups.proofs.string.Goals as goal

pub returns-then-not-dictionary_right : goal.returns-then-not-dictionary_right
returns-then-not-dictionary_right c = let a = c.args in
    let shown = string_refused (string_input a.kind a.bytes.now a.ends.now a.n)
    (sym c.dictionary_right.ensures ∙ not-true _ c.if-not-dictionary_right.true-raw) in
    record { tt_value = shown.0; number = shown.1 }

pub returns-then-ends-n : goal.returns-then-ends-n
returns-then-ends-n c = let a = c.args in
    let shown = string_served (string_input a.kind a.bytes.now a.ends.now a.n)
    (sym c.dictionary_right.ensures ∙ not-false _ c.if-not-dictionary_right.false-raw) _
    (sym (bounds_past a.ends.now a.n c.if-ends-n.true)) in
    record { tt_value = shown.0; number = shown.1 }

pub returns : goal.returns
returns c = let a = c.args in
    let shown = string_served (string_input a.kind a.bytes.now a.ends.now a.n)
    (sym c.dictionary_right.ensures ∙ not-false _ c.if-not-dictionary_right.false-raw) _
    (ap₂ Part c.start_of-start.ensures c.wide-end.ensures ∙ sym (bounds_within a.ends.now a.n c.if-ends-n.false)) in
    record { tt_value = shown.0; number = shown.1 }
