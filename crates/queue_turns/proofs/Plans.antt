-- The words of an entry's plan, as the code reads them.
use Prim.Native.Nat.{ℕ, ◌≤◌}
use native.Mathlib.Omega.{arith}
use mathlib.Core.Path.{◌≡◌, refl, sym, ◌∙◌, ap}
use mathlib.Core.Bool.{Bool, true, false, cond}
use mathlib.Core.List.{[]}
use lib.Dec.{leb}
use lib.ListN.{length, take}
use borrow.Author.Tests.{leb-true}
use Rattle.queues.specs.declared.Entry.{Entry}
use Rattle.queues.specs.Lists.{entry_plan_room, entry_plan}
use Rattle.queue_outcomes.specs.Services.{planned_in}

module _ (e : Entry) (whole : length e.plan ≡ entry_plan_room) where
  pub planned_within : (r : ℕ) → r ≡ planned_in e → r ≤ length e.plan
  planned_within r is = by_test (leb e.planned entry_plan_room) refl is
    where
      by_test : (b : Bool) → leb e.planned entry_plan_room ≡ b → r ≡ cond b e.planned 0 → r ≤ length e.plan
      by_test true h f = let l = leb-true e.planned entry_plan_room h in omega arith
      by_test false h f = omega arith

  pub plan_read : (r : ℕ) → r ≡ planned_in e → take r e.plan ≡ entry_plan e
  plan_read r is =
      ap (λ (n : ℕ). take n e.plan) is
      ∙ by_test (leb e.planned entry_plan_room)
      ∙ ap (λ (n : ℕ). cond (leb e.planned n) (take e.planned e.plan) []) (sym whole)
    where
      by_test : (b : Bool) → take (cond b e.planned 0) e.plan ≡ cond b (take e.planned e.plan) []
      by_test true = refl
      by_test false = refl
