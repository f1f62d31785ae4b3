use Rattle.tokens.specs.Runs.{blanks_length}
use Rattle.tokens.specs.Tokens.{tokens_from, tokens_of}
use Rattle.tokens.specs.TokenWords.{token_words}
use Prim.Native.Nat.{◌-◌, ◌*◌, ◌≤◌}
use mathlib.Core.Path.{◌≡◌}
use mathlib.Core.Bool.{false}
use mathlib.Core.List.{◌++◌}
use lib.ListN.{length, take, drop}
use Rattle.token_passes.proofs.read_tokens.Given as goal

abbrev pub invariant-loop-at : goal.invariant-loop-at
invariant-loop-at l =
    (l.at ≤ length l.points) × (l.n ≤ 3 * l.at) × (length l.tokens ≡ length l.initial.tokens)
    × (blanks_length false (drop l.at l.points) ≡ 0)
    × (token_words (tokens_of l.points) ≡ take l.n l.tokens ++ token_words (tokens_from 0 l.at (drop l.at l.points)))
    × (drop l.n l.tokens ≡ drop l.n l.initial.tokens)

abbrev pub decreases-loop-at : goal.decreases-loop-at
decreases-loop-at l = length l.points - l.at
