-- The words that test 7 asks of an output, by the words of a plan, and when a plan is refused instead; and the call that says so, which lends no
-- buffer. Assumes nothing: these are definitions.
use Rattle.std.proofs.Math.Option.{Option, none, some}
use Rattle.std.specs.Prelude.{ℕ, ◌≡◌, ◌↔◌, List, [], ◌∷◌, map}
use Rattle.words.specs.declared.Written.{Written}
use Rattle.words.specs.declared.Written.TheVariants.{Words, Refused}
use Rattle.words.specs.Answers.{refusal_in, words_in}
use Rattle.words.specs.Tests.{Test, first_failing, number_of, AllPass, FirstFails}
use Rattle.calls.specs.Calls.{CallSchema}
use Rattle.plans.specs.Plans.{plan_of, plan_tests}
use Rattle.lists.specs.Gathering.{least_output}

-- a plan that fails test 5, 6 or 23 is refused by its number; of any other, what its ending asks for
abbrev pub output_as : List ℕ → Option ℕ → Written
output_as plan (some n) = Refused n
output_as plan none = Words (least_output (plan_of plan).ending)

unfoldable pub plan_output : List ℕ → Written
plan_output plan = output_as plan (first_failing (plan_tests plan))

pub record OutputRefusals (plan : List ℕ) : Type 0 where
  -- the table's numbers, in the table's order
  pub order : map (λ (t : Test). t.0) (plan_tests plan) ≡ 5 ∷ 6 ∷ 23 ∷ []
  -- the answer has the number of the first test that fails, 0 where all pass
  pub number : refusal_in (plan_output plan) ≡ number_of (first_failing (plan_tests plan))
  -- it is refused with x exactly where x is the number of the first test that fails
  pub refused : (x : ℕ) → (plan_output plan ≡ Refused x) ↔ FirstFails x (plan_tests plan)
  -- it is answered, with no such number, exactly where all pass
  pub serves : ((x : ℕ) → ¬ (plan_output plan ≡ Refused x)) ↔ AllPass (plan_tests plan)
  -- what is asked for is what test 7 compares with the output's length
  pub asks : (n : ℕ) → plan_output plan ≡ Words n → n ≡ least_output (plan_of plan).ending

-- what test 7 compares with the length of a turn's output
abbrev pub words_asked : List ℕ → ℕ
words_asked plan = least_output (plan_of plan).ending

-- ---- the same as a call
abbrev pub output_schema : CallSchema (List ℕ) Written Written (Unit {0}) ℕ
output_schema =
    record {
      tests = plan_tests;
      numbers = λ plan. 5 ∷ 6 ∷ 23 ∷ [];
      lent = λ plan. tt;
      refuses = Refused;
      serves = λ plan. Words (words_asked plan);
      leaves = λ plan. tt;
      counts = words_asked;
      says = λ a. a;
      refusal = Refused;
      tells = refusal_in;
      counted = words_in;
      nothing = 0;
    }
