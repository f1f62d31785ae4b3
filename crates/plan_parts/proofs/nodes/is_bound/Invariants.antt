use mathlib.Core.Path.{◌≡◌}
use lib.ListN.{drop}
use Rattle.sequences.specs.Sequences.{member}
use Rattle.plan_parts.proofs.nodes.is_bound.Given as goal

abbrev pub invariant-loop-term : goal.invariant-loop-term
invariant-loop-term l = member l.word l.terms ≡ member l.word (drop l.term-index l.terms)
