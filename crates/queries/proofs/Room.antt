-- A kept buffer that has room for the whole list has room for the list at every step: a play over it is not refused by 14.
use Prim.Native.Nat.{ℕ, ◌+◌, ◌-◌, ◌≤◌}
use native.Mathlib.Omega.{arith}
use native.Mathlib.Decide.{dec_lt}
use mathlib.Core.Path.{◌≡◌, ap}
use mathlib.Core.List.{List}
use lib.ListN.{length}
use Rattle.tables.specs.Tables.{Tables}
use Rattle.plans.specs.Plans.{Plan, plan_of}
use Rattle.steps.proofs.Runs as runs
use Rattle.cuts.specs.Uncut.{EndsAt, run_list, totals_pass, no_room}
use Rattle.cuts.specs.Accepting.{Accepted}
use Rattle.cuts.proofs.Accepting.{opening_accepts, accepted_form}
use Rattle.cuts.proofs.Chains.{kept_some}
use Rattle.cuts.proofs.Keeping.{end_later}
use Rattle.turns.specs.Surveys.{Survey}
use Rattle.turns.specs.Opening.{Opens}
use Rattle.queries.specs.declared.Keeping.{Keeping}
use Rattle.queries.specs.Playing.{list_after, Cause, output_short, quantum_wrong, list_left, Stops}
use Rattle.queries.proofs.Lengths.{no_shorter}

module _ (t : Tables) (plan : List ℕ) (a : Accepted t plan) where
  abbrev q : Plan
  q = plan_of plan

  -- no list is longer than the whole one
  pub whole_longest : (n : ℕ) → EndsAt t q n → (m : ℕ) → length (list_after t plan m) ≤ length (list_after t plan n)
  whole_longest n e m =
      elim (dec_lt n m) [
        | yes f ↦ let same = runs.done_later t q n m (omega arith) e.over in
            let first = kept_some t q (accepted_form t plan a).ending n (end_later t q n e) in
            let later = kept_some t q (accepted_form t plan a).ending m (omega arith) in
            omega (arith, ap length first, ap length later, ap (λ r. length (run_list q.ending r)) same)
        | no f ↦ let d : n ≡ m + (n - m) = omega arith in
            omega (arith, no_shorter t plan a m (n - m), ap (λ k. length (list_after t plan k)) d)
      ]

-- a play that was opened, over a kept buffer with room for the whole list of the uncut run, is stopped by no 14
pub room_enough : (keep : Keeping) (v : Survey) (plan state : List ℕ) → Opens v plan state → (n : ℕ) → EndsAt v.tables (plan_of plan) n
    → (quantum most room : ℕ) (before kept : List ℕ) → length (list_after v.tables plan n) ≤ length before
    → (x : ℕ) → Stops keep v.tables plan quantum most room before kept x → ¬ (x ≡ 14)
room_enough keep v plan state o n ends quantum most room before kept fits x s = go x s.cause
  where
    go : (y : ℕ) → Cause keep v.tables plan quantum room before s.steps y → ¬ (y ≡ 14)
    go y (output_short l) e = omega arith
    go y (quantum_wrong l f) e = omega arith
    go y (list_left c m f z (totals_pass p)) e = omega arith
    go y (list_left c m f z (no_room p l)) e = omega (arith, whole_longest v.tables plan (opening_accepts v plan state o) n ends m)
