-- What a plan asks of an output, for every list of words: refused with a number exactly where that test is the first to fail, answered
-- exactly where all pass, and then with the words that test 7 compares.
use Prim.Native.Nat.{ℕ}
use native.Mathlib.Omega.{arith}
use mathlib.Core.Path.{◌≡◌, refl, sym, ◌∙◌, ap}
use mathlib.Core.Logic.{◌↔◌}
use mathlib.Core.Option.{Option, none, some}
use mathlib.Core.List.{List}
use Rattle.words.specs.declared.Written.TheVariants.{Words, Refused}
use Rattle.words.specs.Answers.{refusal_in, words_in}
use Rattle.words.specs.Tests.{first_failing, number_of, AllPass, FirstFails}
use Rattle.words.proofs.Testing.{all_passes}
use Rattle.words.proofs.Refusing.{refused_by_lem, served_when}
use Rattle.plans.specs.Plans.{plan_of, plan_tests}
use Rattle.lists.specs.Gathering.{least_output}
use Rattle.list_limits.specs.PlanOutputs.{output_as, plan_output, OutputRefusals}

module _ (plan : List ℕ) where
  asks_some : (x : ℕ) → ¬ (output_as plan none ≡ Refused x)
  asks_some x e = let z : ◌≡◌ {A = ℕ} 0 1 = cc in omega arith

  output_refused : (x : ℕ) → (plan_output plan ≡ Refused x) ↔ FirstFails x (plan_tests plan)
  unfolding plan_output
  output_refused x = refused_by_lem Refused (output_as plan) (λ x y e. cc) (λ x. refl) asks_some (plan_tests plan) x

  output_number : refusal_in (plan_output plan) ≡ number_of (first_failing (plan_tests plan))
  unfolding plan_output
  output_number = go (first_failing (plan_tests plan))
    where
      go : (o : Option ℕ) → refusal_in (output_as plan o) ≡ number_of o
      go none = refl
      go (some n) = refl

  output_serves : ((x : ℕ) → ¬ (plan_output plan ≡ Refused x)) ↔ AllPass (plan_tests plan)
  unfolding plan_output
  output_serves = served_when Refused (output_as plan) (λ x y e. cc) (λ x. refl) asks_some (plan_tests plan)

  words_not_refused : (n x : ℕ) → plan_output plan ≡ Words n → ¬ (plan_output plan ≡ Refused x)
  words_not_refused n x e r = let z : ◌≡◌ {A = ℕ} 0 1 = cc in omega arith

  output_asks : (n : ℕ) → plan_output plan ≡ Words n → n ≡ least_output (plan_of plan).ending
  unfolding plan_output
  output_asks n e =
      let p = all_passes (plan_tests plan) (output_serves.0 (λ x. words_not_refused n x e)) in
      sym (ap words_in e) ∙ ap words_in (ap (output_as plan) p)

  pub output_refusals : OutputRefusals plan
  output_refusals = record { order = refl; number = output_number; refused = output_refused; serves = output_serves; asks = output_asks }
