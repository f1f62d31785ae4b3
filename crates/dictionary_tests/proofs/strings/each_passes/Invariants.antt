use Rattle.std.proofs.Common.{◌≡◌, ℕ, Bool, List}
use Rattle.std.specs.Fn.{FnReturnsAt}
use lib.ListN.{drop}
use Rattle.sequences.specs.Sequences.{all}
use Rattle.dictionaries.specs.Dictionaries.{strings_of}
use Rattle.dictionary_tests.proofs.strings.each_passes.Given as goal

abbrev pub invariant-loop-i : goal.invariant-loop-i
invariant-loop-i g l =
    (p : List ℕ → Bool) → ((s : List ℕ) (b : Bool) → FnReturnsAt g.F.Fn l.test s b → b ≡ p s)
    → all p (strings_of l.bytes l.ends) ≡ all p (drop l.i (strings_of l.bytes l.ends))
