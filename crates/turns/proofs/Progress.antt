-- A served turn takes at least one step, and at most its quantum.
use Prim.Native.Nat.{◌≤◌}
use native.Mathlib.Omega.{arith}
use mathlib.Core.Path.{◌≡◌, subst⁻¹}
use mathlib.Core.Bool.{true}
use mathlib.Core.List.{[], ◌∷◌}
use Rattle.words.specs.Bindings.{Bindings}
use Rattle.steps.specs.Saved.{state_in}
use Rattle.lists.proofs.OneRow.{one_row_lem}
use Rattle.turns.specs.Turns.{Progress, steps_of, TurnInput, given_state, given_plan, served}
use Rattle.turns.proofs.Stepping.{AfterAttempts, some_steps, room_for, has_room_lem, served_attempts}
use Rattle.turns.specs.Refusals.{Served}
use Rattle.turns.specs.OnTheRun.{Progresses}
use Rattle.turns.proofs.Limits.{TurnLimits, turn_limits}
use Rattle.turns.proofs.Follows.{served_steps}

module _ (i : TurnInput) (limits : TurnLimits i) where
  -- the first row has room, by test 7
  first_row : (b : Bindings) → room_for i (b ∷ []) ≡ true
  first_row b =
      let l = one_row_lem (given_plan i).ending i.threshold b in (has_room_lem i (b ∷ [])).1 (omega (arith, limits.output_room_fact))

  advances : (p : Progress) → AfterAttempts i.survey.tables (given_plan i) i.threshold (room_for i) (state_in (given_state i)) i.quantum p
      → (1 ≤ steps_of p) × (steps_of p ≤ i.quantum)
  advances =
      some_steps i.survey.tables (given_plan i) i.threshold (room_for i) (state_in (given_state i)) first_row i.quantum limits.one_step_fact

pub progresses : (i : TurnInput) → Served i → Progresses i
progresses i h =
    let a = advances i (turn_limits i h) (served i) (served_attempts i) in
    record {
      least = subst⁻¹ (λ n. 1 ≤ n) (served_steps i h) a.0;
      within = subst⁻¹ (λ n. n ≤ i.quantum) (served_steps i h) a.1;
    }
