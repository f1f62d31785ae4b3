-- What is kept of the uncut run passes test 12, at every step and at its end.
use Prim.Native.Nat.{ℕ, zero, suc}
use mathlib.Core.List.{List, []}
use Rattle.tables.specs.Tables.{Tables}
use Rattle.plans.specs.Plans.{plan_of}
use Rattle.steps.specs.Steps.{after}
use Rattle.lists.proofs.Gatherings.{ValidKept, valid_kept, none_kept_lem}
use Rattle.lists.proofs.Closing.{at_valid}
use Rattle.turns.specs.Turns.{is_over}
use Rattle.cuts.specs.Uncut.{kept_after}
use Rattle.cuts.specs.Accepting.{Accepted}
use Rattle.cuts.proofs.Accepting.{accepted_form, accepted_values}

pub kept_valid : (t : Tables) (plan : List ℕ) → Accepted t plan → (n : ℕ) → ValidKept (plan_of plan).ending (kept_after t (plan_of plan) n)
kept_valid t plan a zero = none_kept_lem (plan_of plan).ending (accepted_form t plan a).ending
kept_valid t plan a (suc n) =
    valid_kept (plan_of plan).ending _
    (at_valid (plan_of plan).ending (accepted_form t plan a).ending [] (is_over (after t (plan_of plan) (suc n)).state)
    (after t (plan_of plan) (suc n)).delivered (accepted_values t plan a (suc n)))
