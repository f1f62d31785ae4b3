-- The most steps: a turn that is done after one step stays so, whatever its quantum.
use Prim.Native.Nat.{ℕ, ◌+◌}
use native.Mathlib.Omega.{arith}
use mathlib.Core.Path.{◌≡◌, refl, ap, ◌∙◌}
use mathlib.Core.Bool.{Bool}
use mathlib.Core.Option.{none}
use mathlib.Core.List.{List, []}
use Rattle.words.specs.Bindings.{Bindings}
use Rattle.words.specs.Tests.{first_failing}
use Rattle.calls.proofs.Refusals.{by_none}
use Rattle.tables.specs.Tables.{Tables}
use Rattle.plans.specs.Plans.{Plan}
use Rattle.steps.specs.Steps.{State}
use Rattle.steps.specs.Saved.{state_in}
use Rattle.turns.specs.declared.TurnEnding.TheVariants.{Done}
use Rattle.turns.specs.Turns.{Progress, stopped, progress, fits_in, TurnInput, given_state, given_plan, turn_tests}
use Rattle.turns.specs.Turns.{turn_list, finished, served, turn_schema, turn_of, result_of}
use Rattle.turns.proofs.Refusals.{turn_is_right}
use Rattle.turns.proofs.Stepping.{stopped_stays}
use Rattle.worked_cases.specs.Literals.{stems}
use Rattle.worked_limits.specs.Sizes.{empty_turn, StepLimit}
use Rattle.worked_cases.proofs.Holds.{computing}

abbrev done_at_once : Progress
done_at_once = stopped Done 1 none []

-- done after one step, and so after any more
stays : (t : Tables) (q : Plan) (threshold : List ℕ) (fits : List Bindings → Bool) (n : ℕ) (s : State)
    → progress t q threshold fits 1 s ≡ done_at_once → progress t q threshold fits (1 + n) s ≡ done_at_once
stays t q threshold fits n s e = stopped_stays t q threshold fits s 1 (1 + n) Done 1 none [] e (omega arith)

-- an accepted turn that is done after one step
done : (i : TurnInput) → first_failing (turn_tests i) ≡ none → served i ≡ done_at_once → turn_of i ≡ result_of i Done 1 [] (turn_list i Done [])
done i f p = by_none turn_schema turn_is_right i f ∙ ap (finished i) p

accepted : first_failing (turn_tests (empty_turn 1000000)) ≡ none
unfolding computing
accepted = refl

-- its first step is the last, and its list is empty
first_step_lem : served (empty_turn 1) ≡ done_at_once
unfolding computing
first_step_lem = refl

no_list : turn_list (empty_turn 1000000) Done [] ≡ []
unfolding computing
no_list = refl

abbrev plan : Plan
plan = given_plan (empty_turn 1)

pub step_limit : StepLimit
step_limit =
    done (empty_turn 1000000) accepted
    (stays stems plan [] (fits_in plan.ending [] 128) 999999 (state_in (given_state (empty_turn 1))) first_step_lem)
    ∙ ap (result_of (empty_turn 1000000) Done 1 []) no_list
