-- `find` meets its contract.
use mathlib.Core.Path.{sym, ◌∙◌}
use borrow.Author.Tests.{not-true, not-false}
use Rattle.dictionaries.proofs.Checking.{tested}
use Rattle.dictionary_lookups.specs.Finding.{find_input}
use Rattle.dictionary_lookups.proofs.Finding.{find_refused, find_served}
use Rattle.dictionary_lookups.proofs.find.Goals as goal

pub returns-then-not-dictionary_right : goal.returns-then-not-dictionary_right
returns-then-not-dictionary_right c = let a = c.args in
    let shown = find_refused (find_input a.kind a.bytes.now a.ends.now a.sought.now)
    (sym c.dictionary_right.ensures ∙ not-true _ c.if-not-dictionary_right.true-raw) in
    record { tt_value = shown.0; number = shown.1 }

pub find-requires : goal.find-requires
find-requires c =
    let a = c.args in
    ((tested a.kind a.bytes.now a.ends.now).0 (sym c.dictionary_right.ensures ∙ not-false _ c.if-not-dictionary_right.false-raw)).right

pub returns-in-Ok : goal.returns-in-Ok
returns-in-Ok c = let a = c.args in
    let shown = find_served (find_input a.kind a.bytes.now a.ends.now a.sought.now)
    (sym c.dictionary_right.ensures ∙ not-false _ c.if-not-dictionary_right.false-raw) _
    (sym c.in-Ok.is ∙ c.find.ensures) in
    record { tt_value = shown.0; number = shown.1 }

pub returns-in-Err : goal.returns-in-Err
returns-in-Err c = let a = c.args in
    let shown = find_served (find_input a.kind a.bytes.now a.ends.now a.sought.now)
    (sym c.dictionary_right.ensures ∙ not-false _ c.if-not-dictionary_right.false-raw) _
    (sym c.in-Err.is ∙ c.find.ensures) in
    record { tt_value = shown.0; number = shown.1 }
