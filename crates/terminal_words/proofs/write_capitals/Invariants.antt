use Rattle.std.proofs.Common.{◌≡◌, length, take, map}
use Rattle.terminals.specs.Spellings.{capital}
use Rattle.terminal_words.proofs.write_capitals.Given as goal

abbrev pub invariant-loop-i : goal.invariant-loop-i
invariant-loop-i l = (length l.out ≡ length l.initial.out) × (take l.i l.out ≡ map capital (take l.i l.s))
