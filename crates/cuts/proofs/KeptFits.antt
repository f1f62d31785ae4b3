-- A merge in a history is refused only for the uncut run's totals or its list's room.
use Prim.Native.Nat.{ℕ}
use mathlib.Core.Path.{◌≡◌}
use mathlib.Core.List.{List, ◌∷◌, ◌++◌}
use lib.ListN.{length}
use Rattle.words.specs.declared.Written.TheVariants.{Refused}
use Rattle.plans.specs.Plans.{plan_of}
use Rattle.turns.specs.Surveys.{Survey}
use Rattle.turns.specs.Opening.{open_of, Opens}
use Rattle.merges.specs.Merging.{merge_of}
use Rattle.cuts.specs.Histories.{Event, ServedTurn, merge_input_of, history, fresh}
use Rattle.cuts.specs.Premises.{Premises}
use Rattle.cuts.specs.Uncut.{MergesLists, NotTakenAt}
use Rattle.cuts.proofs.Accepting.{opening_accepts}
use Rattle.cuts.proofs.Chains.{chain_placed}
use Rattle.cuts.proofs.Keeping.{next}
use Rattle.cuts.proofs.MergeRefusals.{merge_refused}
use Rattle.cuts.proofs.AnyCut.{history_keeps, fresh_keeps}

-- whatever the totals were before: a merge that is refused by 13 is one whose own result does not fit
pub refused_by_13_or_14 : (v : Survey) (plan state : List ℕ) → Opens v plan state → MergesLists (plan_of plan).ending
    → (es : List Event) → Premises v plan (fresh (open_of v plan state)) es
    → (x : ServedTurn) (rest : List ServedTurn) → (history v plan (fresh (open_of v plan state)) es).waiting ≡ x ∷ rest
    → (behind : List ℕ) (y : ℕ)
    → (merge_of (merge_input_of plan (history v plan (fresh (open_of v plan state)) es) behind x)).answer ≡ Refused y
    → NotTakenAt v (plan_of plan) (history v plan (fresh (open_of v plan state)) es) x
    (length ((history v plan (fresh (open_of v plan state)) es).kept ++ behind)) y
refused_by_13_or_14 v plan state o m es p x rest waits behind y e =
    let a = opening_accepts v plan state o in
    let h = history v plan (fresh (open_of v plan state)) es in
    let k = history_keeps v plan a es (fresh (open_of v plan state)) (fresh_keeps v plan a state o) p in
    let c = next v (plan_of plan) h k x rest waits in
    record {
      upto = k.upto;
      taken = chain_placed v (plan_of plan) 0 k.upto h.taken k.taken;
      to = c.0;
      takes = c.1.0.stretch.takes;
      cause = merge_refused v plan a h k m x rest waits behind y e;
    }
