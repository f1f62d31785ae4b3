-- Making tables is a right call: so demand 1 holds of it, for every input.
use Prim.Native.Nat.{ℕ}
use native.Mathlib.Omega.{arith}
use mathlib.Core.Path.{◌≡◌, refl}
use Rattle.calls.specs.Calls.{NotRefused, RightCall, CallRefusals}
use Rattle.calls.proofs.Refusals.{call_so, call_refusals}
use Rattle.uploads.specs.declared.Made.TheVariants.{Refused}
use Rattle.uploads.specs.Uploads.{made_tables, dropped_report}
use Rattle.uploads.specs.Making.{MakeInput, made_with, make_schema, make_of}

pub make_is_right : RightCall make_schema
make_is_right =
    record {
      order = λ i. refl;
      refused = λ x. refl;
      told = λ x. refl;
      empty = λ x. refl;
      serving = λ i h x e. let z : ◌≡◌ {A = ℕ} 0 1 = cc in omega arith;
      zero = λ i h. refl;
      counting = λ i h. refl;
    }

module _ (i : MakeInput) where
  -- a call that is served writes the tables and the report over the first words of the buffers
  pub made_so : NotRefused make_schema i → make_of i ≡ made_with (made_tables i.upload) (dropped_report i.upload) i.buffers
  made_so = call_so make_schema make_is_right i

  pub make_refusals : CallRefusals make_schema i
  make_refusals = call_refusals make_schema make_is_right i

  -- a refusal leaves the buffers that were lent
  pub make_unchanged : (x : ℕ) → (make_of i).answer ≡ Refused x → (make_of i).buffers ≡ i.buffers
  make_unchanged x e = (make_refusals.unchanged x e).buffers
