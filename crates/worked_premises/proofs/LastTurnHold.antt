-- Fairness up to the last turn that it allows: after as many turns as its place an owner is at the front, and not before.
use Prim.Native.Nat.{ℕ, ◌-◌}
use native.Mathlib.Omega.{arith}
use mathlib.Core.Path.{◌≡◌, refl, ◌∙◌, ap}
use mathlib.Core.Option.{some}
use mathlib.Core.List.{List}
use Rattle.turns.specs.Surveys.{Survey}
use Rattle.queues.specs.Lists.{Queue}
use Rattle.queues.specs.Calls.{MadeCall, after_calls, deeds, turns_in, place_in_line, Fair}
use Rattle.queues.proofs.Fairness.{fair}
use Rattle.worked_cases.specs.Calls.{surveyed}
use Rattle.worked_cases.specs.Wood.{wood}
use Rattle.worked_premises.specs.LastTurn.{line_of_three, two_served, BothNeeded}
use Rattle.worked_cases.proofs.Holds.{computing}

-- from fairness alone, of every queue: after as many turns as its place an owner is at the front
pub at_front_then : (v : Survey) (q : Queue) (owner p : ℕ) → Fair v q owner p → (ms : List MadeCall) → turns_in (deeds v q ms) ≡ p
    → place_in_line owner (after_calls v q ms).line ≡ some 0
at_front_then v q owner p f ms e = f.moves_up ms (omega arith) ∙ ap (λ (n : ℕ). some n) (let z : p - turns_in (deeds v q ms) ≡ 0 = omega arith in z)

-- 9 at place 2 behind 7 and 8
fair_to_nine : Fair (surveyed wood) line_of_three 9 2
unfolding computing
fair_to_nine = fair (surveyed wood) line_of_three 9 2 refl

pub both_needed : BothNeeded
unfolding computing
both_needed =
    record {
      place = refl;
      fair = fair_to_nine;
      one = refl;
      then_second = refl;
      anothers = refl;
      two = refl;
      then_first = at_front_then (surveyed wood) line_of_three 9 2 fair_to_nine two_served refl;
      its_own = refl;
    }
