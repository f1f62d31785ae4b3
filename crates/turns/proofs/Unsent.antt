-- A turn that was sent no threshold prunes nothing: its run is the uncut one from its state, step for step.
use Prim.Native.Nat.{ℕ}
use mathlib.Core.Path.{◌≡◌, ◌∙◌, ap}
use mathlib.Core.List.{[]}
use Rattle.steps.specs.Steps.{State, step, run_from}
use Rattle.steps.specs.Saved.{state_in}
use Rattle.step_prunings.specs.Pruning.{pruned_step, pruned_from}
use Rattle.step_prunings.proofs.Sending.{step_unsent, run_unsent}
use Rattle.turns.specs.Turns.{TurnInput, given_state, given_plan}
use Rattle.turns.specs.Follows.{given_run}

module _ (i : TurnInput) (none_sent : i.threshold ≡ []) where
  pub given_unsent : (n : ℕ) → given_run i n ≡ run_from i.survey.tables (given_plan i) (state_in (given_state i)) n
  given_unsent n =
      ap (λ l. pruned_from i.survey.tables (given_plan i) l (state_in (given_state i)) n) none_sent
      ∙ run_unsent i.survey.tables (given_plan i) (state_in (given_state i)) n

  pub next_unsent : (s : State) → pruned_step i.survey.tables (given_plan i) i.threshold s ≡ step i.survey.tables (given_plan i) s
  next_unsent s = ap (λ l. pruned_step i.survey.tables (given_plan i) l s) none_sent ∙ step_unsent i.survey.tables (given_plan i) s
