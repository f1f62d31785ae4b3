-- A turn takes no more steps than its quantum, and saves no more words than its buffer has, whether it is served or refused.
use Prim.Native.Nat.{ℕ, ◌≤◌}
use native.Mathlib.Omega.{arith}
use mathlib.Core.Path.{◌≡◌, refl, ap}
use lib.ListN.{length, drop, length-append, length-drop}
use Rattle.turns.specs.declared.TurnEnding.{TurnEnding}
use Rattle.turns.specs.declared.TurnEnding.TheVariants as ending
use Rattle.turns.specs.Turns.{TurnValues, TurnInput, turn_of}
use Rattle.steps.specs.Saved.{saved_words}
use Rattle.turns.specs.Follows.{turn_run}
use Rattle.turns.specs.Refusals.{Served}
use Rattle.turns.proofs.Refusals.{turn_refusals}
use Rattle.turns.proofs.Progress.{progresses}
use Rattle.turns.proofs.Follows.{follows}
use Rattle.turns.proofs.OnTheRun.{keeps_lengths}

pub record Bounded (i : TurnInput) : Type 0 where
  pub steps : (turn_of i).answer.steps ≤ i.quantum
  pub saved : (turn_of i).answer.saved ≤ length i.state

module _ (i : TurnInput) where
  when_served : Served i → Bounded i
  when_served h =
      let ws = saved_words i.survey.number (turn_run i).state in
      let f = (follows i h).state in
      let k = (keeps_lengths i h).state in
      let w = ap length f.whole in
      let c = f.counted in
      let a = length-append ws (drop (length ws) i.state) in
      let b = length-drop (length ws) i.state in
      record { steps = (progresses i h).within; saved = omega arith }

  pub bounded : Bounded i
  bounded = by_ending_lem (turn_of i).answer.ending refl
    where
      by_ending_lem : (x : TurnEnding) → (turn_of i).answer.ending ≡ x → Bounded i
      by_ending_lem ending.Done is = when_served (λ x e. let z : ◌≡◌ {A = ℕ} 0 1 = cc in omega arith)
      by_ending_lem ending.Spent is = when_served (λ x e. let z : ◌≡◌ {A = ℕ} 0 1 = cc in omega arith)
      by_ending_lem ending.Full is = when_served (λ x e. let z : ◌≡◌ {A = ℕ} 0 1 = cc in omega arith)
      by_ending_lem (ending.Refused y) is =
          let u = ((turn_refusals i).unchanged y is).words in
          let a = ap (λ (w : TurnValues). w.steps) u in let b = ap (λ (w : TurnValues). w.saved) u in
          record { steps = omega arith; saved = omega arith }
