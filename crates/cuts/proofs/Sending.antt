-- What the turns of a history were sent: every served turn passed test 11, and where none was sent a threshold demand 3's premise on thresholds holds.
-- So it need not be asked of rows, groups and registers.
use Prim.Native.Nat.{ℕ}
use native.Mathlib.Omega.{arith}
use mathlib.Core.Path.{◌≡◌, refl, ◌∙◌, ap, subst, subst⁻¹}
use mathlib.Core.Bool.{true}
use mathlib.Core.List.{List, [], ◌∷◌, map}
use lib.Dec.{ltb}
use Rattle.sequences.specs.Sequences.{all}
use Rattle.words.specs.Tests.{Test, FirstFails, here, there}
use Rattle.sequences.proofs.Booleans.{absurd_true}
use Rattle.sequences.proofs.Elements.{all_head, all_tail}
use Rattle.sequences.proofs.Each.{each_append}
use Rattle.plans.specs.Plans.{plan_of}
use Rattle.lists.specs.Thresholds.{Sent, absent}
use Rattle.turns.specs.Surveys.{Survey}
use Rattle.turns.specs.declared.TurnEnding.{TurnEnding}
use Rattle.turns.specs.declared.TurnEnding.TheVariants as ending
use Rattle.turns.specs.Opening.{open_of}
use Rattle.turns.specs.Turns.{TurnInput, turn_of, turn_tests, refusal_of}
use Rattle.turns.specs.Refusals.{Served}
use Rattle.turns.proofs.Refusals.{turn_passed, turn_refusals}
use Rattle.cuts.specs.Histories.{Event, turns, merges, joins, Phone, ServedTurn, served_in, turn_input_of, served_of, after_served, after_turn}
use Rattle.cuts.specs.Histories.{happens, history, fresh}
use Rattle.cuts.specs.Premises.{lists_in, Asked, Premises}
use Rattle.cuts.specs.Unsent.{Unsent, BestUnsent}
use Rattle.cuts.proofs.Placing.{unsent_left, unsent_right}
use Rattle.cuts.proofs.NoThreshold.{ThresholdsPass, all_unsent}
use Rattle.cuts.proofs.Keeping.{served_more}
use Rattle.cuts.proofs.AfterDone.{merge_same, join_same}

-- ---- no turn is refused by the number 0
some_number : (n : ℕ) (xs : List Test) → FirstFails n xs → all (ltb 0) (map (λ (x : Test). x.0) xs) ≡ true → ltb 0 n ≡ true
some_number n [] h p = elim h [ ]
some_number n ((m, b) ∷ xs) here p = all_head (ltb 0) m (map (λ (x : Test). x.0) xs) p
some_number n ((m, b) ∷ xs) (there f) p = some_number n xs f (all_tail (ltb 0) m (map (λ (x : Test). x.0) xs) p)

not_refused : (i : TurnInput) → ¬ ((turn_of i).answer.ending ≡ ending.Refused 0)
unfolding all
not_refused i e =
    let r = turn_refusals i in
    absurd_true (some_number 0 (turn_tests i) ((r.refused 0).0 e) (ap (all (ltb 0)) r.order)) refl

-- ---- where no turn was sent a threshold, the last was not
pub last_unsent : (h : Phone) (x : ServedTurn) → Unsent (served_in (after_served h x)) → x.sent ≡ []
last_unsent h x u = (unsent_right (served_in h) (x ∷ []) (subst Unsent (served_more h x) u)).0

module _ (v : Survey) (plan : List ℕ) where
  -- ---- what was sent no threshold after an event was sent none before
  turn_before : (h : Phone) (x : ServedTurn) (e : TurnEnding) → Unsent (served_in (after_turn h x e)) → Unsent (served_in h)
  turn_before h x ending.Done u = unsent_left (served_in h) (x ∷ []) (subst Unsent (served_more h x) u)
  turn_before h x ending.Spent u = unsent_left (served_in h) (x ∷ []) (subst Unsent (served_more h x) u)
  turn_before h x ending.Full u = unsent_left (served_in h) (x ∷ []) (subst Unsent (served_more h x) u)
  turn_before h x (ending.Refused y) u = u

  pub event_before : (h : Phone) (e : Event) → Unsent (served_in (happens v plan h e)) → Unsent (served_in h)
  unfolding happens
  event_before h (turns behind quantum threshold output) u =
      let r = turn_of (turn_input_of v plan h behind quantum threshold output) in
      turn_before h (served_of quantum threshold r) r.answer.ending u
  event_before h (merges behind) u = subst Unsent (merge_same v plan h behind).served u
  event_before h joins u = subst Unsent (join_same v plan h).served u

  pub history_before : (es : List Event) (h : Phone) → Unsent (served_in (history v plan h es)) → Unsent (served_in h)
  unfolding history
  history_before [] h u = u
  history_before (e ∷ es) h u = event_before h e (history_before es (happens v plan h e) u)

  -- ---- where none was sent, nothing is asked
  turn_asks : (h : Phone) (behind : List ℕ) (quantum : ℕ) (threshold output : List ℕ) (e : TurnEnding)
      → (turn_of (turn_input_of v plan h behind quantum threshold output)).answer.ending ≡ e
      → Unsent (served_in (after_turn h (served_of quantum threshold (turn_of (turn_input_of v plan h behind quantum threshold output))) e))
      → refusal_of e ≡ 0 → threshold ≡ []
  turn_asks h behind quantum threshold output ending.Done p u z = last_unsent h _ u
  turn_asks h behind quantum threshold output ending.Spent p u z = last_unsent h _ u
  turn_asks h behind quantum threshold output ending.Full p u z = last_unsent h _ u
  turn_asks h behind quantum threshold output (ending.Refused y) p u z =
      absurd (not_refused (turn_input_of v plan h behind quantum threshold output) (p ∙ ap ending.Refused z))

  event_asks : (h : Phone) (e : Event) → Unsent (served_in (happens v plan h e)) → Asked v plan h e
  unfolding happens
  event_asks h (turns behind quantum threshold output) u = λ z.
      subst⁻¹ (Sent (plan_of plan).ending (lists_in (served_in h)))
      (turn_asks h behind quantum threshold output (turn_of (turn_input_of v plan h behind quantum threshold output)).answer.ending refl u z)
      absent
  event_asks h (merges behind) u = tt
  event_asks h joins u = tt

  unsent_permitted : (es : List Event) (h : Phone) → Unsent (served_in (history v plan h es)) → Premises v plan h es
  unfolding history
  unsent_permitted [] h u = tt
  unsent_permitted (e ∷ es) h u =
      (event_asks h e (history_before es (happens v plan h e) u), unsent_permitted es (happens v plan h e) u)

  -- ---- every served turn passed test 11
  abbrev Passed : Phone → Type 0
  Passed h = ThresholdsPass (plan_of plan).ending (served_in h)

  turn_passes : (h : Phone) → Passed h → (behind : List ℕ) (quantum : ℕ) (threshold output : List ℕ) (e : TurnEnding)
      → (turn_of (turn_input_of v plan h behind quantum threshold output)).answer.ending ≡ e
      → Passed (after_turn h (served_of quantum threshold (turn_of (turn_input_of v plan h behind quantum threshold output))) e)
  turn_passes h t behind quantum threshold output e p = go e p
    where
      i : TurnInput
      i = turn_input_of v plan h behind quantum threshold output

      more : Served i → Passed (after_served h (served_of quantum threshold (turn_of i)))
      more s =
          subst⁻¹ (ThresholdsPass (plan_of plan).ending) (served_more h (served_of quantum threshold (turn_of i)))
          (each_append _ (served_in h) (served_of quantum threshold (turn_of i) ∷ []) t (turn_passed i 11 s, tt))

      go : (e : TurnEnding) → (turn_of i).answer.ending ≡ e → Passed (after_turn h (served_of quantum threshold (turn_of i)) e)
      go ending.Done p = more (λ y f. let z : ◌≡◌ {A = ℕ} 0 1 = cc in omega arith)
      go ending.Spent p = more (λ y f. let z : ◌≡◌ {A = ℕ} 0 1 = cc in omega arith)
      go ending.Full p = more (λ y f. let z : ◌≡◌ {A = ℕ} 0 1 = cc in omega arith)
      go (ending.Refused y) p = t

  event_passes : (h : Phone) (e : Event) → Passed h → Passed (happens v plan h e)
  unfolding happens
  event_passes h (turns behind quantum threshold output) t = turn_passes h t behind quantum threshold output _ refl
  event_passes h (merges behind) t = subst⁻¹ (ThresholdsPass (plan_of plan).ending) (merge_same v plan h behind).served t
  event_passes h joins t = subst⁻¹ (ThresholdsPass (plan_of plan).ending) (join_same v plan h).served t

  history_passes : (es : List Event) (h : Phone) → Passed h → Passed (history v plan h es)
  unfolding history
  history_passes [] h t = t
  history_passes (e ∷ es) h t = history_passes es (happens v plan h e) (event_passes h e t)

  -- ---- from an opening, whether served or not, with no premise
  pub none_sent_but_best : (state : List ℕ) (es : List Event)
      → BestUnsent (plan_of plan).ending (served_in (history v plan (fresh (open_of v plan state)) es))
      → Unsent (served_in (history v plan (fresh (open_of v plan state)) es))
  none_sent_but_best state es =
      all_unsent (plan_of plan).ending (served_in (history v plan (fresh (open_of v plan state)) es))
      (history_passes es (fresh (open_of v plan state)) tt)

  -- so the premise of demand 3 is one on best-of queries that were sent a threshold
  pub premises_hold : (state : List ℕ) (es : List Event)
      → BestUnsent (plan_of plan).ending (served_in (history v plan (fresh (open_of v plan state)) es))
      → Premises v plan (fresh (open_of v plan state)) es
  premises_hold state es u = unsent_permitted es (fresh (open_of v plan state)) (none_sent_but_best state es u)
