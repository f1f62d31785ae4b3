use lib.ListN.{drop}
use Rattle.dictionary_numberings.specs.Sorted.{last_of_each}
use Rattle.dictionary_writes.proofs.Numbers.{NumbersWritten}
use Rattle.dictionary_writes.proofs.Writing.{sorted_strings}
use Rattle.dictionary_writes.proofs.Writing.{StringsWritten}
use Rattle.dictionary_writes.proofs.write_strings.Given as goal

abbrev pub invariant-loop-k : goal.invariant-loop-k
invariant-loop-k l =
    StringsWritten (last_of_each (sorted_strings l.bytes l.ends))
    (last_of_each (drop l.k (sorted_strings l.bytes l.ends))) l.initial.out l.out l.initial.cuts l.cuts l.filled l.count
    × NumbersWritten l.bytes l.ends l.initial.numbers l.numbers l.count l.k
