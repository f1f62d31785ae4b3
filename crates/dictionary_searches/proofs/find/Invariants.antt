use Prim.Native.Nat.{◌-◌}
use Rattle.dictionaries.specs.Dictionaries.{strings_of}
use Rattle.dictionaries.proofs.Searching.{Between}
use Rattle.dictionary_searches.proofs.find.Given as goal

abbrev pub invariant-loop-lo : goal.invariant-loop-lo
invariant-loop-lo l = Between l.s (strings_of l.bytes l.ends) l.lo l.hi

abbrev pub decreases-loop-lo : goal.decreases-loop-lo
decreases-loop-lo l = l.hi - l.lo
