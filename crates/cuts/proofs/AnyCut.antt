-- Any cut is as the uncut run: demand 3, for every list of turns, merges and joins.
use Prim.Native.Nat.{ℕ}
use native.Mathlib.Omega.{arith}
use mathlib.Core.Path.{◌≡◌, refl, ap}
use mathlib.Core.Bool.{true}
use mathlib.Core.List.{List, [], ◌∷◌}
use Rattle.sequences.specs.Sequences.{all, iterate}
use Rattle.tables.specs.Tables.{Tables}
use Rattle.plans.specs.Endings.{Ending, rows, top, group, registers}
use Rattle.plans.specs.Plans.{Plan, plan_of}
use Rattle.steps.specs.Steps.{Run, after}
use Rattle.lists.specs.Groups.{add_all_by}
use Rattle.turns.specs.Surveys.{Survey}
use Rattle.turns.specs.declared.TurnEnding.{TurnEnding}
use Rattle.turns.specs.declared.TurnEnding.TheVariants.{Done, Spent, Full, Refused}
use Rattle.turns.specs.Opening.{open_of, Opens}
use Rattle.turns.specs.Turns.{turn_of, refusal_of}
use Rattle.turns.proofs.Follows.{starts_run}
use Rattle.cuts.specs.Histories.{Event, turns, merges, joins, Phone, done_in, turn_input_of, served_of, after_turn, happens, history, fresh}
use Rattle.cuts.specs.Premises.{Asked, Premises}
use Rattle.cuts.specs.Uncut.{AsUncut, run_fits}
use Rattle.cuts.specs.Accepting.{Accepted}
use Rattle.cuts.proofs.Accepting.{opening_accepts, accepted_form}
use Rattle.cuts.proofs.Keeping.{Kept, as_uncut}
use Rattle.cuts.proofs.Turning.{served_keeps}
use Rattle.cuts.proofs.Taking.{merging_keeps, joining_keeps}

-- no row, no total
pub nothing_fits : (e : Ending) (r : Run) → r.delivered ≡ [] → run_fits e r ≡ true
unfolding all add_all_by
nothing_fits (rows vs) r d = refl
nothing_fits (top k vs keys) r d = refl
nothing_fits (group vs m) r d = rw d
nothing_fits (registers v) r d = refl

module _ (v : Survey) (plan : List ℕ) (a : Accepted v.tables plan) where
  abbrev t : Tables
  t = v.tables

  abbrev q : Plan
  q = plan_of plan

  -- ---- one event
  turn_keeps : (h : Phone) → Kept v q h → (behind : List ℕ) (quantum : ℕ) (threshold output : List ℕ)
      → Asked v plan h (turns behind quantum threshold output)
      → (e : TurnEnding) → (turn_of (turn_input_of v plan h behind quantum threshold output)).answer.ending ≡ e
      → Kept v q (after_turn h (served_of quantum threshold (turn_of (turn_input_of v plan h behind quantum threshold output))) e)
  turn_keeps h k behind quantum threshold output asked Done e =
      served_keeps v plan a h k behind quantum threshold output (λ y f. let z : ◌≡◌ {A = ℕ} 0 1 = cc in omega arith) (asked (ap refusal_of e))
  turn_keeps h k behind quantum threshold output asked Spent e =
      served_keeps v plan a h k behind quantum threshold output (λ y f. let z : ◌≡◌ {A = ℕ} 0 1 = cc in omega arith) (asked (ap refusal_of e))
  turn_keeps h k behind quantum threshold output asked Full e =
      served_keeps v plan a h k behind quantum threshold output (λ y f. let z : ◌≡◌ {A = ℕ} 0 1 = cc in omega arith) (asked (ap refusal_of e))
  turn_keeps h k behind quantum threshold output asked (Refused y) e = k

  event_keeps : (h : Phone) → Kept v q h → (e : Event) → Asked v plan h e → Kept v q (happens v plan h e)
  unfolding happens
  event_keeps h k (turns behind quantum threshold output) asked =
      turn_keeps h k behind quantum threshold output asked
      (turn_of (turn_input_of v plan h behind quantum threshold output)).answer.ending refl
  event_keeps h k (merges behind) asked = merging_keeps v plan a h k behind h.waiting refl
  event_keeps h k joins asked = joining_keeps v plan a h k h.waiting refl

  -- ---- a list of them
  pub history_keeps : (es : List Event) (h : Phone) → Kept v q h → Premises v plan h es → Kept v q (history v plan h es)
  unfolding history
  history_keeps [] h k p = k
  history_keeps (e ∷ es) h k p = history_keeps es (happens v plan h e) (event_keeps h k e p.0) p.1

  -- ---- from a fresh opening
  pub fresh_keeps : (state : List ℕ) → Opens v plan state → Kept v q (fresh (open_of v plan state))
  unfolding done_in after iterate
  fresh_keeps state o =
      record {
        upto = 0;
        reached = 0;
        taken = refl;
        waiting = refl;
        saved = (starts_run v plan state o).buffer.front;
        alive = λ m l. absurd (omega arith);
        done = refl;
        list = refl;
        fits = nothing_fits q.ending (after t q 0) refl;
      }

-- For every opening that is served and every list of events, refused ones included, whatever words stand behind the saved state
-- and behind the kept list, whatever quanta and outputs: under the premise on thresholds the history is as the uncut run.
pub any_cut : (v : Survey) (plan state : List ℕ) → Opens v plan state → (es : List Event)
    → Premises v plan (fresh (open_of v plan state)) es
    → AsUncut v (plan_of plan) (history v plan (fresh (open_of v plan state)) es)
any_cut v plan state o es p =
    let a = opening_accepts v plan state o in
    as_uncut v (plan_of plan) (accepted_form v.tables plan a).ending (history v plan (fresh (open_of v plan state)) es)
    (history_keeps v plan a es (fresh (open_of v plan state)) (fresh_keeps v plan a state o) p)
