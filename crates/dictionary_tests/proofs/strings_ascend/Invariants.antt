use Prim.Native.Nat.{◌-◌}
use mathlib.Core.Path.{◌≡◌}
use lib.ListN.{drop}
use Rattle.sequences.specs.Sequences.{neighbours}
use Rattle.dictionaries.specs.Strings.{string_before}
use Rattle.dictionaries.specs.Dictionaries.{strings_of}
use Rattle.dictionary_tests.proofs.strings_ascend.Given as goal

abbrev pub invariant-loop-next : goal.invariant-loop-next
invariant-loop-next l = neighbours string_before (strings_of l.bytes l.ends) ≡ neighbours string_before (drop (l.next - 1) (strings_of l.bytes l.ends))
