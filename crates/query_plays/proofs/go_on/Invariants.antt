use Prim.Native.Nat.{◌≤◌}
use mathlib.Core.Path.{◌≡◌}
use lib.ListN.{length}
use Rattle.turns.specs.Surveys.{survey_of}
use Rattle.queries.specs.declared.Keeping.TheVariants.{All}
use Rattle.queries.specs.declared.Went.TheVariants.{On}
use Rattle.queries.specs.Rounds.{first_position, rounds}
use Rattle.query_plays.proofs.go_on.Given as goal

abbrev pub invariant-loop : goal.invariant-loop
invariant-loop l =
    (l.counter ≤ l.most) × (length l.state ≡ length l.initial.state) × (length l.output ≡ length l.initial.output) × (length l.kept ≡ length l.initial.kept)
    × (rounds All (survey_of l.rows l.pos l.osp l.survey) l.plan l.quantum l.counter
    (first_position l.opened (record { state = l.initial.state; output = l.initial.output; kept = l.initial.kept }))
    ≡ record { went = On l.saved l.used; held = record { state = l.state; output = l.output; kept = l.kept } })
