-- `branch_count` meets its contract: the count of the head.
use mathlib.Core.Path.{ap, ◌∙◌}
use mathlib.Core.List.{List}
use Prim.Native.Nat.{ℕ}
use lib.ListN.{get_or}
use Rattle.plans.specs.Plans.{branch_count}
use Rattle.plans.proofs.branch_count.Goals as goal

pub returns : goal.returns
returns c =
    let n = c.count_in.ensures in
    (n.0 ∙ ap (λ (ws : List ℕ). branch_count (get_or ws 0 0)) c.from_head.ensures, n.1)
