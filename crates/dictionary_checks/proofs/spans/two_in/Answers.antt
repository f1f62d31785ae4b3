-- `two_in` meets its contract.
use mathlib.Core.Path.{sym, ◌∙◌}
use mathlib.Core.List.{[], ◌∷◌}
use Rattle.dictionaries.specs.Utf8.{span, trailing}
use Rattle.dictionary_checks.proofs.Spanning.{span_goes, span_stops}
use Rattle.dictionary_checks.proofs.spans.two_in.Goals as goal

pub returns-then-one_in : goal.returns-then-one_in
returns-then-one_in c =
    let a = c.args in
    c.one_in-then-one_in.ensures ∙ sym (span_goes a.bytes.now a.i (span a.least a.greatest) (trailing ∷ []) (sym c.one_in.ensures ∙ c.if-one_in.true))

pub returns-else-one_in : goal.returns-else-one_in
returns-else-one_in c =
    let a = c.args in
    c.if-one_in.false ∙ sym (span_stops a.bytes.now a.i (span a.least a.greatest) (trailing ∷ []) (sym c.one_in.ensures ∙ c.if-one_in.false))
