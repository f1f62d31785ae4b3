-- After done every turn of a history is refused, whatever events come between.
use Prim.Native.Nat.{ℕ}
use mathlib.Core.Path.{◌≡◌, refl, sym, ◌∙◌, ap}
use mathlib.Core.Bool.{true}
use mathlib.Core.List.{List, [], ◌∷◌, ◌++◌, append_assoc}
use lib.ListN.{length}
use Rattle.words.specs.declared.Written.{Written}
use Rattle.words.specs.declared.Written.TheVariants.{Words, Refused}
use Rattle.plans.specs.Endings.{Ending, rows, top, group, registers}
use Rattle.plans.specs.Plans.{plan_of}
use Rattle.turns.specs.Surveys.{Survey}
use Rattle.turns.specs.Opening.{open_of, Opens}
use Rattle.turns.specs.Turns.{turn_of}
use Rattle.turns.specs.AfterDone.{NoStateRefused}
use Rattle.turns.proofs.AfterDone.{no_state_refused}
use Rattle.calls.specs.Words.{WordsResult}
use Rattle.merges.specs.Merging.{merge_of}
use Rattle.cuts.specs.Histories.{Event, turns, merges, joins, Phone, ServedTurn, served_in, done_in, turn_input_of, served_of, after_turn, after_taking}
use Rattle.cuts.specs.Histories.{merge_input_of, after_merge, after_merging, after_join, after_joining, happens, history, fresh}
use Rattle.cuts.specs.Premises.{Premises}
use Rattle.cuts.specs.AfterDone.{NoTurnServed}
use Rattle.cuts.proofs.AnyCut.{any_cut}

-- with no saved words no turn is served, and an event keeps it so
pub record Same (h g : Phone) : Type 0 where
  pub saved : g.saved ≡ h.saved
  pub served : served_in g ≡ served_in h

module _ (v : Survey) (plan : List ℕ) (h : Phone) where
  same : Same h h
  same = record { saved = refl; served = refl }

  -- ---- a list taken
  taking : (x : ServedTurn) (rest : List ServedTurn) (kept : List ℕ) → h.waiting ≡ x ∷ rest → Same h (after_taking h x rest kept)
  taking x rest kept e =
      record { saved = refl; served = append_assoc h.taken (x ∷ []) rest ∙ ap (λ l. h.taken ++ l) (sym e) }

  merging : (x : ServedTurn) (rest : List ServedTurn) (r : WordsResult) (w : Written) → h.waiting ≡ x ∷ rest → Same h (after_merge h x rest r w)
  merging x rest r (Words n) e = taking x rest _ e
  merging x rest r (Refused n) e = same

  joining : (x : ServedTurn) (rest : List ServedTurn) (e : Ending) → h.waiting ≡ x ∷ rest → Same h (after_join e h x rest)
  joining x rest (rows vs) e = taking x rest _ e
  joining x rest (top k vs keys) e = same
  joining x rest (group vs m) e = same
  joining x rest (registers y) e = same

  merged : (behind : List ℕ) (waiting : List ServedTurn) → h.waiting ≡ waiting → Same h (after_merging plan h behind waiting)
  merged behind [] e = same
  merged behind (x ∷ rest) e = merging x rest (merge_of (merge_input_of plan h behind x)) (merge_of (merge_input_of plan h behind x)).answer e

  joined : (waiting : List ServedTurn) → h.waiting ≡ waiting → Same h (after_joining plan h waiting)
  joined [] e = same
  joined (x ∷ rest) e = joining x rest (plan_of plan).ending e

  pub merge_same : (behind : List ℕ) → Same h (happens v plan h (merges behind))
  unfolding happens
  merge_same behind = merged behind h.waiting refl

  pub join_same : Same h (happens v plan h joins)
  unfolding happens
  join_same = joined h.waiting refl

  -- ---- a turn
  module _ (none-saved : h.saved ≡ []) where
    pub turn_refused : (behind : List ℕ) (quantum : ℕ) (threshold output : List ℕ)
        → NoStateRefused (turn_input_of v plan h behind quantum threshold output)
    turn_refused behind quantum threshold output =
        no_state_refused (turn_input_of v plan h behind quantum threshold output) (ap length none-saved)

    pub turn_unmoved : (behind : List ℕ) (quantum : ℕ) (threshold output : List ℕ)
        → happens v plan h (turns behind quantum threshold output) ≡ h
    unfolding happens
    turn_unmoved behind quantum threshold output =
        ap (after_turn h (served_of quantum threshold (turn_of (turn_input_of v plan h behind quantum threshold output))))
        (turn_refused behind quantum threshold output).refused

    event_same : (e : Event) → Same h (happens v plan h e)
    event_same (turns behind quantum threshold output) = rw (turn_unmoved behind quantum threshold output) same
    event_same (merges behind) = merge_same behind
    event_same joins = join_same

-- ---- a list of events
history_same : (v : Survey) (plan : List ℕ) (es : List Event) (h : Phone) → h.saved ≡ [] → Same h (history v plan h es)
unfolding history
history_same v plan [] h z = same v plan h
history_same v plan (e ∷ es) h z =
    let a = event_same v plan h z e in
    let b = history_same v plan es (happens v plan h e) (a.saved ∙ z) in
    record { saved = b.saved ∙ a.saved; served = b.served ∙ a.served }

pub none_saved_none_served : (v : Survey) (plan : List ℕ) (h : Phone) → h.saved ≡ [] → NoTurnServed v plan h
none_saved_none_served v plan h z =
    record {
      served = λ later. (history_same v plan later h z).served;
      refused = λ later. turn_refused v plan (history v plan h later) ((history_same v plan later h z).saved ∙ z);
      unmoved = λ later. turn_unmoved v plan (history v plan h later) ((history_same v plan later h z).saved ∙ z);
    }

-- For every opening that is served and every list of events under the premise on thresholds: once done was answered, no turn is served.
pub after_done_every_turn_is_refused : (v : Survey) (plan state : List ℕ) → Opens v plan state → (es : List Event)
    → Premises v plan (fresh (open_of v plan state)) es
    → done_in (served_in (history v plan (fresh (open_of v plan state)) es)) ≡ true
    → NoTurnServed v plan (history v plan (fresh (open_of v plan state)) es)
after_done_every_turn_is_refused v plan state o es p d =
    let u = any_cut v plan state o es p in
    none_saved_none_served v plan (history v plan (fresh (open_of v plan state)) es) (u.end.1 (u.done.0 d))
