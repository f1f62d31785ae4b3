-- What a plan asks of an output is answered by a right call: so demand 1 holds of it, for every list of words.
use Prim.Native.Nat.{ℕ}
use native.Mathlib.Omega.{arith}
use mathlib.Core.Path.{◌≡◌, refl}
use mathlib.Core.List.{List}
use Rattle.calls.specs.Calls.{RightCall, CallRefusals}
use Rattle.calls.proofs.Refusals.{call_refusals}
use Rattle.list_limits.specs.PlanOutputs.{output_schema}

pub output_is_right : RightCall output_schema
output_is_right =
    record {
      order = λ plan. refl;
      refused = λ x. refl;
      told = λ x. refl;
      empty = λ x. refl;
      serving = λ plan h x e. let z : ◌≡◌ {A = ℕ} 0 1 = cc in omega arith;
      zero = λ plan h. refl;
      counting = λ plan h. refl;
    }

pub output_call_refusals : (plan : List ℕ) → CallRefusals output_schema plan
output_call_refusals plan = call_refusals output_schema output_is_right plan
