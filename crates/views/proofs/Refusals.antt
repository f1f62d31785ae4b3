-- Writing a view is a right call: so demand 1 holds of it, for every input.
use mathlib.Core.Path.{◌≡◌, refl}
use Rattle.calls.specs.Calls.{NotRefused, RightCall, CallRefusals}
use Rattle.calls.proofs.Refusals.{call_so, call_refusals}
use Rattle.table_answers.specs.Writing.{written_with}
use Rattle.table_answers.proofs.Written.{writing_right}
use Rattle.views.specs.Viewing.{ViewInput, view_in, view_tests, view_schema, view_call_of}

pub view_is_right : RightCall view_schema
view_is_right = writing_right view_tests _ _ view_in (λ i. refl)

module _ (i : ViewInput) where
  -- a call that is served writes the view's tables over the first words of the buffers
  pub viewed_so : NotRefused view_schema i → view_call_of i ≡ written_with (view_in i) i.buffers
  viewed_so = call_so view_schema view_is_right i

  pub view_refusals : CallRefusals view_schema i
  view_refusals = call_refusals view_schema view_is_right i
