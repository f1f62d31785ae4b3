use Prim.Native.Nat.{◌≤◌}
use mathlib.Core.Path.{◌≡◌}
use lib.ListN.{length}
use Rattle.queries.specs.declared.Keeping.TheVariants.{Merged}
use Rattle.queries.specs.declared.Went.TheVariants.{On}
use Rattle.queries.specs.Rounds.{first_position, rounds}
use Rattle.print_writing.specs.FileQueries.{lent_survey}
use Rattle.print_writing.specs.Shown.{most_turns}
use Rattle.print_rounds.proofs.go_on.Given as goal

abbrev pub invariant-loop-made : goal.invariant-loop-made
invariant-loop-made g l =
    (l.made ≤ most_turns) × (length l.state ≡ length l.initial.state) × (length l.output ≡ length l.initial.output) × (length l.kept ≡ length l.initial.kept)
    × (rounds Merged (lent_survey l.rows l.pos l.osp) l.plan l.quantum l.made
    (first_position l.opened (record { state = l.initial.state; output = l.initial.output; kept = l.initial.kept }))
    ≡ record { went = On l.saved l.used; held = record { state = l.state; output = l.output; kept = l.kept } })
