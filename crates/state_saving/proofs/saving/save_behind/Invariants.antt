use mathlib.Core.Path.{◌≡◌}
use lib.ListN.{length, get_or}
use Rattle.sequences.specs.Sequences.{over}
use Rattle.state_saving.proofs.Storing.{words_above}
use Rattle.state_saving.proofs.saving.save_behind.Given as goal

abbrev pub invariant-loop-i : goal.invariant-loop-i
invariant-loop-i l =
    (length l.state ≡ length l.initial.state) × (l.state ≡ over (words_above (get_or l.initial.state 0 0) l.upper l.i) l.initial.state)
