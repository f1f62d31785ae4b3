use mathlib.Core.Path.{◌≡◌}
use lib.ListN.{drop}
use Rattle.sequences.specs.Sequences.{distinct}
use Rattle.plan_ending_forms.proofs.searches.all_differ.Given as goal

abbrev pub invariant-loop-i : goal.invariant-loop-i
invariant-loop-i l = distinct l.words ≡ distinct (drop l.i l.words)
