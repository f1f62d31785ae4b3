use Prim.Native.Nat.{◌+◌, ◌≤◌}
use mathlib.Core.Path.{◌≡◌}
use lib.ListN.{length, drop}
use Rattle.print_texts.specs.Texts.{fields}
use Rattle.print_terms.specs.Fields.{field_as}
use Rattle.print_texts.specs.Placing.{placed}
use Rattle.print_terms.proofs.put_fields.Given as goal

abbrev pub invariant-loop-word : goal.invariant-loop-word
invariant-loop-word l =
    (l.word-index ≤ length l.words)
    × (length l.line ≡ length l.initial.line)
    × (l.next + length (fields (field_as l.shown) (drop l.word-index l.words)) ≡ l.at + length (fields (field_as l.shown) l.words))
    × (placed (fields (field_as l.shown) (drop l.word-index l.words)) l.next l.line ≡ placed (fields (field_as l.shown) l.words) l.at l.initial.line)
