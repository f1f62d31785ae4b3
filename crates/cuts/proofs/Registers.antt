-- Demand 3 of registers: in every history those merged so far are the uncut run's, up to where the last list taken ended; and a report counts those.
use Prim.Native.Nat.{ℕ, zero, suc}
use mathlib.Core.Path.{◌≡◌, sym, ◌∙◌, ap, subst, subst⁻¹}
use mathlib.Core.List.{List, [], map}
use Rattle.sequences.specs.Sequences.{iterate, numbers}
use Rattle.tables.specs.Tables.{Tables}
use Rattle.plans.specs.Endings.{registers}
use Rattle.plans.specs.Plans.{Plan, plan_of}
use Rattle.steps.specs.Steps.{Run, after}
use Rattle.registers.specs.Registers.{most_rank, registers_of, registers_in, kept_registers, count_at, report_on}
use Rattle.registers.proofs.Bounds.{registers_length}
use Rattle.lists.specs.Rows.{bound_values}
use Rattle.lists.proofs.Closing.{registers_at}
use Rattle.lists.proofs.Gatherings.{ValidKept}
use Rattle.lists.proofs.RegisterLists.{registers_in_lem, registers_gathered, registers_none}
use Rattle.step_prunings.proofs.Sending.{KeepsNoBest, of_registers}
use Rattle.turns.specs.Surveys.{Survey}
use Rattle.turns.specs.Opening.{open_of, Opens}
use Rattle.turns.specs.Turns.{is_over}
use Rattle.cuts.specs.Histories.{Event, history, fresh}
use Rattle.cuts.specs.Premises.{Premises}
use Rattle.cuts.specs.Uncut.{run_list, kept_after}
use Rattle.cuts.specs.Registers.{run_registers, RegistersSoFar}
use Rattle.cuts.proofs.Accepting.{opening_accepts}
use Rattle.cuts.proofs.NoThreshold.{nothing_asked}
use Rattle.cuts.proofs.Chains.{chain_steps}
use Rattle.cuts.proofs.KeptValid.{kept_valid}
use Rattle.cuts.proofs.AnyCut.{history_keeps, fresh_keeps}

module _ (t : Tables) (q : Plan) (x : ℕ) (ending : q.ending ≡ registers x) where
  -- of a run, at its end or before
  run_registers_lem : (r : Run) → run_list q.ending r ≡ registers_of (bound_values x r.delivered)
  run_registers_lem r =
      ap (λ e. run_list e r) ending ∙ registers_at x [] (is_over r.state) r.delivered ∙ registers_gathered x [] r.delivered

  -- an empty kept list is all 0, and so is that of no rows
  pub kept_registers_lem : (n : ℕ) → registers_in (kept_after t q n) ≡ run_registers t q x n
  unfolding after iterate
  kept_registers_lem zero = sym (sym (registers_gathered x [] []) ∙ registers_none x [])
  kept_registers_lem (suc n) =
      ap registers_in (run_registers_lem (after t q (suc n))) ∙ registers_in_lem _ (registers_length (bound_values x (after t q (suc n)).delivered))

-- For every opening of such a query that is served and every list of events, under the premise on thresholds.
pub registers_so_far : (v : Survey) (plan state : List ℕ) → Opens v plan state → (es : List Event)
    → Premises v plan (fresh (open_of v plan state)) es → (x : ℕ) → (plan_of plan).ending ≡ registers x
    → RegistersSoFar v.tables (plan_of plan) x (history v plan (fresh (open_of v plan state)) es)
unfolding report_on
registers_so_far v plan state o es p x ending =
    let a = opening_accepts v plan state o in
    let q = plan_of plan in
    let h = history v plan (fresh (open_of v plan state)) es in
    let k = history_keeps v plan a es (fresh (open_of v plan state)) (fresh_keeps v plan a state o) p in
    let at = chain_steps v q k.upto h.taken k.taken (nothing_asked (subst⁻¹ KeepsNoBest ending of_registers) h.taken) in
    let same = ap registers_in k.list ∙ kept_registers_lem v.tables q x ending k.upto ∙ ap (run_registers v.tables q x) at in
    record {
      merged = same;
      accepted = ap kept_registers k.list
          ∙ subst (λ e. ValidKept e (kept_after v.tables q k.upto)) ending (kept_valid v.tables plan a k.upto);
      counts = ap (λ l. map (λ i. count_at i l) (numbers (suc most_rank))) same;
    }
