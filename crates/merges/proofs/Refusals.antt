-- Merging is a right call: so demand 1 holds of it, for every input.
use Prim.Native.Nat.{ℕ}
use mathlib.Core.Path.{◌≡◌, refl}
use mathlib.Core.Bool.{true}
use Rattle.words.proofs.Testing.{test_numbered}
use Rattle.calls.specs.Calls.{NotRefused, RightCall, CallRefusals}
use Rattle.calls.proofs.Refusals.{call_passed, call_refusals}
use Rattle.calls.proofs.Words.{words_right}
use Rattle.merges.specs.Merging.{MergeInput, merged_words, merge_tests, merge_schema}

pub merge_is_right : RightCall merge_schema
merge_is_right = words_right merge_tests _ _ merged_words (λ i. refl)

module _ (i : MergeInput) where
  -- a test that a served merge passed, by its number
  pub merge_passed : (n : ℕ) → NotRefused merge_schema i → test_numbered n (merge_tests i) ≡ true
  merge_passed = call_passed merge_schema merge_is_right i

  pub merge_refusals : CallRefusals merge_schema i
  merge_refusals = call_refusals merge_schema merge_is_right i
