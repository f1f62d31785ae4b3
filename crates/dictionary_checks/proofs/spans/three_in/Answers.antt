-- `three_in` meets its contract.
use mathlib.Core.Path.{sym, refl, ◌∙◌}
use mathlib.Core.List.{[], ◌∷◌}
use Rattle.dictionaries.specs.Utf8.{span, trailing}
use Rattle.dictionary_checks.proofs.Spanning.{span_goes, span_stops, behind_fits}
use Rattle.dictionary_checks.proofs.spans.three_in.Goals as goal

pub two_in-requires : goal.two_in-requires
two_in-requires c =
    let a = c.args in
    behind_fits a.bytes.now a.i 1 (span a.least a.greatest ∷ []) (sym c.one_in.ensures ∙ c.if-one_in.true) refl c.requires

pub returns-then-one_in : goal.returns-then-one_in
returns-then-one_in c =
    let a = c.args in
    c.two_in.ensures
    ∙ sym (span_goes a.bytes.now a.i (span a.least a.greatest) (trailing ∷ trailing ∷ []) (sym c.one_in.ensures ∙ c.if-one_in.true))

pub returns-else-one_in : goal.returns-else-one_in
returns-else-one_in c =
    let a = c.args in
    c.if-one_in.false
    ∙ sym (span_stops a.bytes.now a.i (span a.least a.greatest) (trailing ∷ trailing ∷ []) (sym c.one_in.ensures ∙ c.if-one_in.false))
