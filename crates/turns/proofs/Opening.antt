-- Opening is a right call: so demand 1 holds of it, for every input.
use Prim.Native.Nat.{ℕ}
use mathlib.Core.Path.{◌≡◌, refl}
use mathlib.Core.Bool.{true}
use mathlib.Core.List.{List}
use Rattle.words.proofs.Testing.{test_numbered}
use Rattle.calls.specs.Calls.{RightCall, CallRefusals}
use Rattle.calls.proofs.Refusals.{call_passed, call_refusals}
use Rattle.calls.proofs.Words.{words_right}
use Rattle.turns.specs.Surveys.{Survey}
use Rattle.turns.specs.Opening.{open_input, start_words, open_tests, open_schema, Opens}

pub open_is_right : RightCall open_schema
open_is_right = words_right open_tests _ _ start_words (λ i. refl)

module _ (v : Survey) (plan state : List ℕ) where
  -- a test that a served opening passed, by its number
  pub open_passed : (n : ℕ) → Opens v plan state → test_numbered n (open_tests (open_input v plan state)) ≡ true
  open_passed = call_passed open_schema open_is_right (open_input v plan state)

  pub open_refusals : CallRefusals open_schema (open_input v plan state)
  open_refusals = call_refusals open_schema open_is_right (open_input v plan state)
