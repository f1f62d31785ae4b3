use Prim.Native.Nat.{◌/◌, ◌≤◌}
use mathlib.Core.Path.{◌≡◌}
use lib.ListN.{length, take}
use Rattle.sequences.specs.Sequences.{over}
use Rattle.print_reading.specs.Files.{file_words, word_bytes}
use Rattle.print_reading.proofs.read_words.Given as goal

abbrev pub invariant-loop-i : goal.invariant-loop-i
invariant-loop-i l =
    (l.i ≤ length l.bytes / word_bytes) × (length l.words ≡ length l.initial.words) × (l.words ≡ over (take l.i (file_words l.bytes)) l.initial.words)
