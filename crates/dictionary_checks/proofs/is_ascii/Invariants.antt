use mathlib.Core.Path.{◌≡◌}
use mathlib.Core.Bool.{◌&&◌}
use lib.Dec.{leb}
use lib.ListN.{drop}
use Rattle.sequences.specs.Sequences.{all}
use Rattle.dictionary_checks.proofs.Ascii.{ascii_byte}
use Rattle.dictionary_checks.proofs.is_ascii.Given as goal

abbrev pub invariant-loop-b : goal.invariant-loop-b
invariant-loop-b l = all ascii_byte l.bytes ≡ leb l.greatest 0x7F && all ascii_byte (drop l.b-index l.bytes)
