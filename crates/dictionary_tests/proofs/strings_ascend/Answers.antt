-- `strings_ascend` meets its contract. The invariant: all neighbours pass exactly where those of the rest do.
use native.Mathlib.Omega.{arith}
use mathlib.Core.Path.{refl, sym, ◌∙◌}
use mathlib.Core.List.{[]}
use Rattle.dictionaries.specs.Strings.{string_before}
use Rattle.dictionaries.specs.Dictionaries.{strings_of}
use Rattle.dictionaries.proofs.Searching.{strings_length}
use Rattle.dictionary_tests.proofs.Walking.{next_goes, next_stops, next_ends}
use Rattle.dictionary_tests.proofs.strings_ascend.Goals as goal

pub loop-next-init : goal.loop-next-init
loop-next-init c = refl

pub returns-then-not-stands_before : goal.returns-then-not-stands_before
returns-then-not-stands_before c =
    let a = c.args in
    let n = strings_length a.bytes.now 0 a.ends.now in
    sym (c.loop-next.invariant ∙ next_stops string_before (strings_of a.bytes.now a.ends.now) [] c.loop-next.next (omega arith) (omega arith)
    (sym c.stands_before.ensures ∙ c.if-not-stands_before.true))

pub loop-next-preserved : goal.loop-next-preserved
loop-next-preserved c =
    let a = c.args in
    let n = strings_length a.bytes.now 0 a.ends.now in
    c.loop-next.invariant ∙ next_goes string_before (strings_of a.bytes.now a.ends.now) [] c.loop-next.next (omega arith) (omega arith)
    (sym c.stands_before.ensures ∙ c.if-not-stands_before.false)

pub returns : goal.returns
returns c =
    let a = c.args in
    let n = strings_length a.bytes.now 0 a.ends.now in
    sym (c.loop-next.invariant ∙ next_ends string_before (strings_of a.bytes.now a.ends.now) [] c.loop-next.next (omega arith))
