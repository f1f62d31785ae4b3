use Prim.Native.Nat.{◌-◌, ◌≤◌}
use mathlib.Core.Path.{◌≡◌}
use lib.ListN.{drop}
use Rattle.dictionaries.specs.Lookups.{precedence}
use Rattle.dictionary_searches.proofs.compare.Given as goal

abbrev pub invariant-loop-i : goal.invariant-loop-i
invariant-loop-i l = (l.i ≤ l.both) × (precedence l.xs l.ys ≡ precedence (drop l.i l.xs) (drop l.i l.ys))

abbrev pub decreases-loop-i : goal.decreases-loop-i
decreases-loop-i l = l.both - l.i
