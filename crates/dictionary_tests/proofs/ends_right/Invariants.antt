use mathlib.Core.Path.{◌≡◌}
use lib.ListN.{drop}
use Rattle.dictionaries.specs.Dictionaries.{ends_right}
use Rattle.dictionary_tests.proofs.ends_right.Given as goal

abbrev pub invariant-loop-end : goal.invariant-loop-end
invariant-loop-end l = ends_right l.count 0 l.ends ≡ ends_right l.count l.last (drop l.end-index l.ends)
