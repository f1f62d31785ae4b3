-- The ending of a served turn, in the words of the rules (docs/RULES.md, 7): done, spent or full, and exactly one. Assumes nothing: these are definitions.
use Rattle.std.specs.Prelude.{ℕ, ◌≤◌, ◌<◌, ◌≡◌, ◌↔◌, length}
use Rattle.std.proofs.Math.Option.{none, some}
use Rattle.words.specs.Bindings.{Bindings}
use Rattle.steps.specs.Steps.{State, delivers}
use Rattle.step_prunings.specs.Pruning.{pruned_step}
use Rattle.lists.specs.Space.{NoSpaceFor}
use Rattle.turns.specs.declared.TurnEnding.TheVariants.{Done, Spent, Full}
use Rattle.turns.specs.Turns.{TurnInput, given_plan, turn_of}
use Rattle.turns.specs.Follows.{given_run, turn_run}

-- after n steps from a turn's state, the next would deliver a row (kind 8) or a new group for which the output has no space
pub record NoSpace (i : TurnInput) (n : ℕ) : Type 0 where
  pub state : State
  pub row : Bindings
  pub next : State
  pub here : (given_run i n).state ≡ some state
  pub would_deliver : pruned_step i.survey.tables (given_plan i) i.threshold state ≡ delivers row next
  pub no_space : NoSpaceFor (given_plan i).ending (length i.output) (given_run i n).delivered row

-- done, after at most the quantum, with no state words
pub record IsDone (i : TurnInput) : Type 0 where
  pub over : (turn_run i).state ≡ none
  pub within : (turn_of i).answer.steps ≤ i.quantum
  pub no_state : (turn_of i).answer.saved ≡ 0

-- spent, after exactly the quantum, not done
pub record IsSpent (i : TurnInput) : Type 0 where
  pub exactly : (turn_of i).answer.steps ≡ i.quantum
  pub not_done : ¬ ((turn_run i).state ≡ none)

-- full, when less than the quantum was taken and there is no space for what the next step would deliver
pub record IsFull (i : TurnInput) : Type 0 where
  pub less : (turn_of i).answer.steps < i.quantum
  pub no_space : NoSpace i (turn_of i).answer.steps

pub data ExactlyOne (A B C : Type 0) : Type 0 where
  first : A → ¬ B → ¬ C → ExactlyOne A B C
  second : ¬ A → B → ¬ C → ExactlyOne A B C
  third : ¬ A → ¬ B → C → ExactlyOne A B C

pub record Endings (i : TurnInput) : Type 0 where
  pub done : ((turn_of i).answer.ending ≡ Done) ↔ IsDone i
  pub spent : ((turn_of i).answer.ending ≡ Spent) ↔ IsSpent i
  pub full : ((turn_of i).answer.ending ≡ Full) ↔ IsFull i
  pub one : ExactlyOne (IsDone i) (IsSpent i) (IsFull i)
  -- there are no state words exactly where the run is over
  pub no_words : ((turn_of i).answer.saved ≡ 0) ↔ ((turn_run i).state ≡ none)
  -- the steps are no more than that takes: at none before was the run over, or space lacking
  pub no_earlier : (n : ℕ) → n < (turn_of i).answer.steps → (¬ ((given_run i n).state ≡ none)) × (¬ NoSpace i n)
