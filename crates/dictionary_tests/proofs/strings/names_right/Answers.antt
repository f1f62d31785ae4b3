-- `names_right` meets its contract.
use Rattle.std.proofs.Common.{rules, tests}
use native.Mathlib.Omega.{arith}
use mathlib.Core.Path.{refl, sym, ◌∙◌}
use mathlib.Core.Bool.{Bool, not}
use mathlib.Core.List.{List, []}
use Prim.Native.Nat.{ℕ}
use lib.Dec.{eqb}
use lib.ListN.{length, get_or}
use Rattle.dictionaries.specs.declared.StringKind.TheVariants.{Names}
use Rattle.dictionaries.specs.Dictionaries.{strings_of}
use Rattle.dictionaries.specs.Checking.{is_iri, string_right}
use Rattle.dictionaries.proofs.Searching.{strings_length}
use Rattle.dictionary_tests.proofs.Walking.{all_alike}
use Rattle.dictionary_tests.proofs.Plain.{some_long, plain_formed, plain_name, name_right}
use Rattle.dictionary_tests.proofs.strings.names_right.Goals as goal

pub returns-then-iri_bytes : goal.returns-then-iri_bytes
returns-then-iri_bytes c =
    let bytes = c.args.bytes.now in
    let ends = c.args.ends.now in
    let n = strings_length bytes 0 ends in
    let filled : List ℕ → Bool = λ s. not (eqb (length s) 0) in
    c.each_passes.ensures filled (λ s b k. search (rules, tests))
    ∙ sym (all_alike (string_right Names) filled (strings_of bytes ends) []
    (λ i h. plain_name bytes ends c.requires.bytes_value (sym c.iri_bytes.ensures ∙ c.if-iri_bytes.true) i (omega arith)
    ∙ some_long (get_or (strings_of bytes ends) i [])))

pub returns-else-iri_bytes : goal.returns-else-iri_bytes
returns-else-iri_bytes c =
    let bytes = c.args.bytes.now in
    let ends = c.args.ends.now in
    let n = strings_length bytes 0 ends in
    c.each_passes-else-iri_bytes.ensures is_iri (λ s b k. search (rules, tests))
    ∙ all_alike is_iri (string_right Names) (strings_of bytes ends) []
    (λ i h. name_right Names (get_or (strings_of bytes ends) i []) refl (plain_formed bytes ends c.requires.bytes_value i (omega arith)))
