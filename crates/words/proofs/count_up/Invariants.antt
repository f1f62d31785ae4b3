use Rattle.std.proofs.Common.{◌≡◌, take}
use Rattle.sequences.specs.Sequences.{numbers}
use Rattle.words.proofs.count_up.Given as goal

abbrev pub invariant-loop-i : goal.invariant-loop-i
invariant-loop-i l = take l.i l.list ≡ numbers l.i
