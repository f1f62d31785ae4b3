-- `iri_right` meets its contract.
use Rattle.std.proofs.Common.{rules, tests}
use Rattle.std.proofs.lemmas.Iterator.{YieldsList-from_slice}
use Rattle.std.proofs.lemmas.Iterator.Search.{all_from_yields_List}
use native.Mathlib.Omega.{arith}
use mathlib.Core.Path.{◌≡◌, sym, ◌∙◌}
use mathlib.Core.Bool.{true}
use lib.Dec.{ltb}
use lib.ListN.{length}
use borrow.Author.Tests.{lt-ltb, eqb-false}
use Rattle.dictionaries.specs.Checking.{iri_character}
use Rattle.dictionary_tests.proofs.Walking.{all_listed}
use Rattle.dictionary_tests.proofs.names.iri_right.Goals as goal

pub returns-then-not-is_empty : goal.returns-then-not-is_empty
returns-then-not-is_empty c =
    let s = c.args.s.now in
    let some = eqb-false (length s) 0 (sym c.is_empty.ensures ∙ c.if-not-is_empty.true) in
    let first : ltb 0 (length s) ≡ true = lt-ltb 0 (length s) (omega arith) in
    rw first
    (all_from_yields_List iri_character _ _ _ c.all.ensures.ran (YieldsList-from_slice s cc) (λ x b q k. search (rules, tests))
    ∙ all_listed iri_character s)
