use Rattle.std.proofs.Common.{◌≡◌, drop}
use Rattle.tokens.specs.Tokens.{tag_end}
use Rattle.token_names.proofs.tag_end.Given as goal

abbrev pub invariant-loop-at : goal.invariant-loop-at
invariant-loop-at l = tag_end (drop l.from l.points) l.from ≡ tag_end (drop l.at l.points) l.at
