-- With rows, groups and registers test 11 refuses every threshold: a turn that was served was sent none.
use Prim.Native.Nat.{ℕ}
use native.Mathlib.Omega.{arith}
use mathlib.Core.Path.{◌≡◌, refl}
use mathlib.Core.Bool.{true}
use mathlib.Core.List.{List, [], ◌∷◌}
use Rattle.sequences.proofs.Each.{Each}
use Rattle.plans.specs.Endings.{Ending, rows, top, group, registers}
use Rattle.lists.specs.Gathering.{threshold_right}
use Rattle.step_prunings.proofs.Sending.{KeepsNoBest, of_rows_fact, of_groups, of_registers}
use Rattle.cuts.specs.Histories.{ServedTurn}
use Rattle.cuts.specs.Unsent.{Unsent, BestUnsent}

pub takes_none : {e : Ending} → KeepsNoBest e → (threshold : List ℕ) → threshold_right e threshold ≡ true → threshold ≡ []
unfolding threshold_right
takes_none k [] r = refl
takes_none of_rows_fact (w ∷ ws) r = absurd (let z : ◌≡◌ {A = ℕ} 0 1 = cc in omega arith)
takes_none of_groups (w ∷ ws) r = absurd (let z : ◌≡◌ {A = ℕ} 0 1 = cc in omega arith)
takes_none of_registers (w ∷ ws) r = absurd (let z : ◌≡◌ {A = ℕ} 0 1 = cc in omega arith)

-- each of some turns passed test 11
abbrev pub ThresholdsPass : Ending → List ServedTurn → Type 0
ThresholdsPass e xs = Each (λ (x : ServedTurn). threshold_right e x.sent ≡ true) xs

none_sent : {e : Ending} → KeepsNoBest e → (xs : List ServedTurn) → ThresholdsPass e xs → Unsent xs
none_sent k [] t = tt
none_sent k (x ∷ xs) t = (takes_none k x.sent t.0, none_sent k xs t.1)

-- so it need be asked of a best-of query alone
pub all_unsent : (e : Ending) (xs : List ServedTurn) → ThresholdsPass e xs → BestUnsent e xs → Unsent xs
all_unsent (rows vs) xs t u = none_sent of_rows_fact xs t
all_unsent (top k vs keys) xs t u = u
all_unsent (group vs m) xs t u = none_sent of_groups xs t
all_unsent (registers v) xs t u = none_sent of_registers xs t

-- of an ending that keeps no best-of list nothing is asked
pub nothing_asked : {e : Ending} → KeepsNoBest e → (xs : List ServedTurn) → BestUnsent e xs
nothing_asked of_rows_fact xs = tt
nothing_asked of_groups xs = tt
nothing_asked of_registers xs = tt
