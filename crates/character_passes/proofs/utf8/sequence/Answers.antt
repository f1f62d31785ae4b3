-- `sequence` meets its contract.
use Rattle.dictionary_checks.specs.Steps.{spans_in}
use Rattle.characters.specs.Sequences.{sequence_from}
use Rattle.character_passes.proofs.Continuing.{sequence_begins, sequence_begins_not}
use Prim.Native.Nat.{◌+◌}
use mathlib.Core.Path.{sym, ap, ◌∙◌}
use native.Mathlib.Omega.{arith}
use lib.ListN.{get_or, drop}
use Rattle.character_passes.proofs.utf8.sequence.Goals as goal

pub sequence_rest-requires : goal.sequence_rest-requires
sequence_rest-requires c = (omega arith, c.first_bits.ensures.1)

pub returns-in-Some : goal.returns-in-Some
returns-in-Some c =
    let a = c.args in
    c.sequence_rest.ensures
    ∙ ap (λ v. sequence_from (drop (a.at + 1) a.text.now) (spans_in c.in-Some.r) v 0) c.first_bits.ensures.0
    ∙ sym (sequence_begins (get_or a.text.now a.at 0) (drop (a.at + 1) a.text.now) c.in-Some.r (sym c.next.ensures ∙ c.in-Some.is))

pub returns-in-None : goal.returns-in-None
returns-in-None c =
    let a = c.args in
    sym (sequence_begins_not (get_or a.text.now a.at 0) (drop (a.at + 1) a.text.now)
    (sym c.next.ensures ∙ c.in-None.is))
