-- `plain_right` meets its contract.
use mathlib.Core.Path.{sym, ap, ◌∙◌}
use Rattle.sequences.specs.Sequences.{all}
use Rattle.dictionaries.specs.Dictionaries.{strings_of}
use Rattle.dictionaries.specs.Checking.{string_right}
use Rattle.dictionary_tests.proofs.Plain.{plain_texts}
use Rattle.dictionary_tests.proofs.strings.plain_right.Goals as goal

pub returns-in-Names : goal.returns-in-Names
returns-in-Names c =
    let a = c.args in
    c.names_right.ensures ∙ ap (λ k. all (string_right k) (strings_of a.bytes.now a.ends.now)) (sym c.in-Names.is)

pub returns-in-Texts : goal.returns-in-Texts
returns-in-Texts c =
    let a = c.args in
    sym (ap (λ k. all (string_right k) (strings_of a.bytes.now a.ends.now)) c.in-Texts.is
    ∙ plain_texts a.bytes.now a.ends.now c.requires.bytes_value)
