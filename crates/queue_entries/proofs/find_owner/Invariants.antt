-- The loop of `find_owner` keeps that the owner was at no place that it passed.
use Prim.Native.Nat.{ℕ, ◌<◌, ◌≤◌}
use mathlib.Core.Path.{◌≡◌}
use lib.ListN.{get_or}
use Rattle.queue_entries.specs.Entries.{nobody}
use Rattle.queue_entries.proofs.find_owner.Given as goal

abbrev pub invariant-loop-i : goal.invariant-loop-i
invariant-loop-i l =
    (l.from ≤ l.i) × ((l.i ≤ l.to) × ((k : ℕ) → l.from ≤ k → k < l.i → (get_or l.list k nobody).owner ≡ l.owner → ⊥))
