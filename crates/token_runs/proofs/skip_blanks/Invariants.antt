use Rattle.std.proofs.Common.{◌≡◌, false, ◌+◌, drop}
use Rattle.tokens.specs.Runs.{blanks_length}
use Rattle.token_runs.proofs.skip_blanks.Given as goal

abbrev pub invariant-loop-i : goal.invariant-loop-i
invariant-loop-i l =
    l.from + blanks_length false (drop l.from l.points) ≡ l.from + l.i + blanks_length l.comment (drop (l.from + l.i) l.points)
