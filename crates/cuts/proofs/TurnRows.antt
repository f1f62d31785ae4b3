-- Where no threshold was sent, the rows that the turns of a history delivered, joined in order, are those of the uncut run up to where the last of them
-- ended.
use Prim.Native.Nat.{ℕ, ◌+◌}
use native.Mathlib.Omega.{arith}
use mathlib.Core.Path.{◌≡◌, refl, sym, ◌∙◌, ap}
use mathlib.Core.List.{List, [], ◌∷◌, ◌++◌, append_assoc, append-nil}
use Rattle.words.specs.Bindings.{Bindings}
use Rattle.sequences.specs.Sequences.{iterate}
use Rattle.tables.specs.Tables.{Tables}
use Rattle.plans.specs.Plans.{Plan, plan_of}
use Rattle.steps.specs.Steps.{Run, after}
use Rattle.turns.specs.Surveys.{Survey}
use Rattle.turns.specs.declared.TurnEnding.{TurnEnding}
use Rattle.turns.specs.declared.TurnEnding.TheVariants as ending
use Rattle.turns.specs.Opening.{open_of, Opens}
use Rattle.turns.specs.Turns.{TurnInput, turn_of, served, rows_of}
use Rattle.turns.specs.Refusals.{Served}
use Rattle.turns.proofs.Follows.{served_run}
use Rattle.cuts.specs.Histories.{Event, turns, merges, joins, Phone, ServedTurn, served_in, steps_in, turn_input_of, served_of, after_served, after_turn}
use Rattle.cuts.specs.Histories.{happens, history, fresh}
use Rattle.cuts.specs.Premises.{Premises}
use Rattle.cuts.specs.Unsent.{Unsent, BestUnsent}
use Rattle.cuts.specs.TurnRows.{delivered_in_turn, delivered_in_event, delivered_in}
use Rattle.cuts.specs.Accepting.{Accepted}
use Rattle.cuts.proofs.Accepting.{opening_accepts}
use Rattle.cuts.proofs.Placing.{steps_from_start}
use Rattle.cuts.proofs.Chains.{steps_more, chain_placed}
use Rattle.cuts.proofs.Keeping.{Kept, whole, served_more}
use Rattle.cuts.proofs.Turning.{on}
use Rattle.cuts.proofs.AnyCut.{history_keeps, fresh_keeps}
use Rattle.cuts.proofs.AfterDone.{merge_same, join_same}
use Rattle.cuts.proofs.Sending.{last_unsent, event_before, history_before, none_sent_but_best, premises_hold}

module _ (v : Survey) (plan : List ℕ) (a : Accepted v.tables plan) where
  abbrev t : Tables
  t = v.tables

  abbrev q : Plan
  q = plan_of plan

  -- the rows of the uncut run up to where the served turns end
  abbrev rows_to : Phone → List Bindings
  rows_to h = (after t q (steps_in (served_in h))).delivered

  module _ (h : Phone) (k : Kept v q h) (u : Unsent (served_in h)) where
    at : k.reached ≡ steps_in (served_in h)
    at = steps_from_start v q k.reached (served_in h) u (chain_placed v q 0 k.reached (served_in h) (whole v q h k))

    -- ---- a turn
    module _ (behind : List ℕ) (quantum : ℕ) (threshold output : List ℕ) where
      abbrev i : TurnInput
      i = turn_input_of v plan h behind quantum threshold output

      abbrev x : ServedTurn
      x = served_of quantum threshold (turn_of i)

      served_adds : Served i → Unsent (served_in (after_served h x)) → rows_to h ++ rows_of (served i) ≡ rows_to (after_served h x)
      served_adds serve w =
          let none_sent = last_unsent h x w in
          let o = on v plan a h k.reached k.saved behind quantum threshold output serve in
          let far = o.as_far none_sent in
          let sum = ap steps_in (served_more h x) ∙ steps_more (served_in h) x in
          let steps : k.reached + o.distance ≡ steps_in (served_in (after_served h x)) = omega (arith, at, far, sum) in
          ap (λ n. (after t q n).delivered ++ rows_of (served i)) (sym at)
          ∙ ap (λ (r : Run). (after t q k.reached).delivered ++ r.delivered) (sym (served_run i serve))
          ∙ ap (λ l. (after t q k.reached).delivered ++ l) (o.delivered none_sent)
          ∙ sym o.more
          ∙ ap (λ n. (after t q n).delivered) steps

      turn_adds : (e : TurnEnding) → (turn_of i).answer.ending ≡ e → Unsent (served_in (after_turn h x e))
          → rows_to h ++ delivered_in_turn i e ≡ rows_to (after_turn h x e)
      turn_adds ending.Done e w = served_adds (λ y f. let z : ◌≡◌ {A = ℕ} 0 1 = cc in omega arith) w
      turn_adds ending.Spent e w = served_adds (λ y f. let z : ◌≡◌ {A = ℕ} 0 1 = cc in omega arith) w
      turn_adds ending.Full e w = served_adds (λ y f. let z : ◌≡◌ {A = ℕ} 0 1 = cc in omega arith) w
      turn_adds (ending.Refused y) e w = append-nil (rows_to h)

    -- a list that is taken changes no turn
    event_adds : (e : Event) → Unsent (served_in (happens v plan h e)) → rows_to h ++ delivered_in_event v plan h e ≡ rows_to (happens v plan h e)
    unfolding happens
    event_adds (turns behind quantum threshold output) w =
        turn_adds behind quantum threshold output (turn_of (turn_input_of v plan h behind quantum threshold output)).answer.ending refl w
    event_adds (merges behind) w =
        append-nil (rows_to h) ∙ ap (λ l. (after t q (steps_in l)).delivered) (sym (merge_same v plan h behind).served)
    event_adds joins w = append-nil (rows_to h) ∙ ap (λ l. (after t q (steps_in l)).delivered) (sym (join_same v plan h).served)

  -- ---- a list of events
  history_adds : (es : List Event) (h : Phone) → Kept v q h → Premises v plan h es → Unsent (served_in (history v plan h es))
      → rows_to h ++ delivered_in v plan h es ≡ rows_to (history v plan h es)
  unfolding history delivered_in
  history_adds [] h k p u = append-nil (rows_to h)
  history_adds (e ∷ es) h k p u =
      let w = history_before v plan es (happens v plan h e) u in
      sym (append_assoc (rows_to h) (delivered_in_event v plan h e) (delivered_in v plan (happens v plan h e) es))
      ∙ ap (λ l. l ++ delivered_in v plan (happens v plan h e) es) (event_adds h k (event_before v plan h e w) e w)
      ∙ history_adds es (happens v plan h e) (history_keeps v plan a (e ∷ []) h k (p.0, tt)) p.1 u

-- from a fresh opening: of a best-of query where no threshold was sent, of rows, groups and registers always
pub rows_are_uncut : (v : Survey) (plan state : List ℕ) → Opens v plan state → (es : List Event)
    → BestUnsent (plan_of plan).ending (served_in (history v plan (fresh (open_of v plan state)) es))
    → delivered_in v plan (fresh (open_of v plan state)) es
    ≡ (after v.tables (plan_of plan) (steps_in (served_in (history v plan (fresh (open_of v plan state)) es)))).delivered
unfolding steps_in after iterate
rows_are_uncut v plan state o es u =
    let a = opening_accepts v plan state o in
    history_adds v plan a es (fresh (open_of v plan state)) (fresh_keeps v plan a state o) (premises_hold v plan state es u)
    (none_sent_but_best v plan state es u)
