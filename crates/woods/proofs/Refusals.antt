-- Growing a wood is a right call: so demand 1 holds of it, for every input.
use mathlib.Core.Path.{◌≡◌, refl}
use Rattle.calls.specs.Calls.{NotRefused, RightCall, CallRefusals}
use Rattle.calls.proofs.Refusals.{call_so, call_refusals}
use Rattle.table_answers.specs.Writing.{written_with}
use Rattle.table_answers.proofs.Written.{writing_right}
use Rattle.woods.specs.Growing.{GrowInput, wood_in, grow_tests, grow_schema, grow_of}

pub grow_is_right : RightCall grow_schema
grow_is_right = writing_right grow_tests _ _ wood_in (λ i. refl)

module _ (i : GrowInput) where
  -- a call that is served writes the wood over the first words of the buffers
  pub grown_so : NotRefused grow_schema i → grow_of i ≡ written_with (wood_in i) i.buffers
  grown_so = call_so grow_schema grow_is_right i

  pub grow_refusals : CallRefusals grow_schema i
  grow_refusals = call_refusals grow_schema grow_is_right i
