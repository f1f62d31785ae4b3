-- The served turns of one table of a region lie on its uncut run, whatever thresholds they were sent: demand 3 without its premise, for positions.
use Prim.Native.Nat.{ℕ, ◌<◌}
use native.Mathlib.Omega.{arith}
use mathlib.Core.Path.{◌≡◌, refl, sym, ◌∙◌, ap, subst}
use mathlib.Core.Bool.{Bool, true, false, cond}
use mathlib.Core.Option.{none}
use mathlib.Core.List.{List, [], ◌∷◌, ◌++◌, append_assoc, append-nil}
use Rattle.words.specs.declared.Written.{Written}
use Rattle.words.specs.declared.Written.TheVariants as written
use Rattle.sequences.specs.Sequences.{iterate}
use Rattle.plans.specs.Plans.{Plan, plan_of}
use Rattle.steps.specs.Steps.{after}
use Rattle.steps.specs.Saved.{saved_words}
use Rattle.lists.specs.Gathering.{is_rows}
use Rattle.lists.specs.Thresholds.{Sent}
use Rattle.turns.specs.Surveys.{Survey}
use Rattle.turns.specs.declared.TurnEnding.{TurnEnding}
use Rattle.turns.specs.declared.TurnEnding.TheVariants.{Done, Spent, Full, Refused}
use Rattle.turns.specs.Opening.{open_of, Opens}
use Rattle.turns.specs.Turns.{is_over, turn_of, refusal_of}
use Rattle.turns.specs.Refusals.{Served}
use Rattle.turns.proofs.Follows.{starts_run}
use Rattle.merges.specs.Merging.{merge_of}
use Rattle.calls.specs.Words.{WordsResult}
use Rattle.cuts.specs.Histories.{Event, turns, merges, joins, Phone, ServedTurn, served_in, done_in, turn_input_of, served_of, after_served, after_turn}
use Rattle.cuts.specs.Histories.{merge_input_of, after_taking, after_merge, after_merging, after_joining, happens, history, fresh}
use Rattle.cuts.specs.Premises.{lists_in}
use Rattle.cuts.specs.Uncut.{Placed}
use Rattle.cuts.specs.Accepting.{Accepted}
use Rattle.cuts.proofs.Chains.{TurnStretch, done_more}
use Rattle.cuts.proofs.Keeping.{served_more, same_served}
use Rattle.cuts.proofs.Turning.{position, stretch, done_is}
use Rattle.regions.specs.Regions.{AskedBeside, PremisesBeside}

-- served turns one behind the other on the uncut run, each with a threshold out of the lists before it and of others
abbrev pub Stretched : List (List ℕ) → Survey → Plan → ℕ → List ServedTurn → ℕ → Type 0
Stretched before v q from [] end = from ≡ end
Stretched before v q from (x ∷ xs) end =
    (to : ℕ) × (TurnStretch v q from to x × (Sent q.ending before x.sent × Stretched (before ++ (x.list ∷ [])) v q to xs end))

module _ (v : Survey) (q : Plan) where
  pub stretched_append : (before : List (List ℕ)) (a b c : ℕ) (xs ys : List ServedTurn)
      → Stretched before v q a xs b → Stretched (before ++ lists_in xs) v q b ys c → Stretched before v q a (xs ++ ys) c
  stretched_append before a b c [] ys p r =
      subst (λ n. Stretched before v q n ys c) (sym p) (subst (λ l. Stretched l v q b ys c) (append-nil before) r)
  stretched_append before a b c (x ∷ xs) ys p r = (
    p.0,
    (
      p.1.0,
      (
        p.1.1.0,
        stretched_append (before ++ (x.list ∷ [])) p.0 b c xs ys p.1.1.1
            (subst (λ l. Stretched l v q b ys c) (sym (append_assoc before (x.list ∷ []) (lists_in xs))) r),
      ),
    ),
  )

  pub stretched_placed : (before : List (List ℕ)) (a b : ℕ) (xs : List ServedTurn) → Stretched before v q a xs b → Placed v q a xs b
  stretched_placed before a b [] c = c
  stretched_placed before a b (x ∷ xs) c =
      (c.0, (c.1.0.takes, stretched_placed (before ++ (x.list ∷ [])) c.0 b xs c.1.1.1))

-- what every history keeps true, beside others' lists
pub record HeldBeside (before : List (List ℕ)) (v : Survey) (q : Plan) (h : Phone) : Type 0 where
  pub reached : ℕ
  pub chain : Stretched before v q 0 (served_in h) reached
  pub saved : h.saved ≡ saved_words v.number (after v.tables q reached).state
  pub alive : (m : ℕ) → m < reached → (after v.tables q m).state ≡ none → ⊥
  pub done : done_in (served_in h) ≡ is_over (after v.tables q reached).state

module _ (before : List (List ℕ)) (v : Survey) (plan : List ℕ) (a : Accepted v.tables plan) where
  abbrev q : Plan
  q = plan_of plan

  -- ---- a turn
  module _ (h : Phone) (k : HeldBeside before v (plan_of plan) h) (behind : List ℕ) (quantum : ℕ) (threshold output : List ℕ) where
    abbrev x : ServedTurn
    x = served_of quantum threshold (turn_of (turn_input_of v plan h behind quantum threshold output))

    served_held : Served (turn_input_of v plan h behind quantum threshold output) → Sent q.ending (before ++ lists_in (served_in h)) threshold
        → HeldBeside before v q (after_served h x)
    served_held serve sent =
        let to = position v plan a h k.reached k.saved behind quantum threshold output serve in
        let s = stretch v plan a h k.reached k.saved behind quantum threshold output serve in
        record {
          reached = to;
          chain =
              subst (λ l. Stretched before v q 0 l to) (sym (served_more h x))
              (stretched_append v q before 0 k.reached to (served_in h) (x ∷ []) k.chain (to, (s, (sent, refl))));
          saved = s.takes.left;
          alive = s.takes.going;
          done =
              ap done_in (served_more h x) ∙ done_more (served_in h) x (k.done ∙ s.going)
              ∙ done_is v plan a h k.reached k.saved behind quantum threshold output serve;
        }

    turn_held : AskedBeside before v plan h (turns behind quantum threshold output)
        → (e : TurnEnding) → (turn_of (turn_input_of v plan h behind quantum threshold output)).answer.ending ≡ e → HeldBeside before v q (after_turn h x e)
    turn_held asked Done e = served_held (λ y f. let z : ◌≡◌ {A = ℕ} 0 1 = cc in omega arith) (asked (ap refusal_of e))
    turn_held asked Spent e = served_held (λ y f. let z : ◌≡◌ {A = ℕ} 0 1 = cc in omega arith) (asked (ap refusal_of e))
    turn_held asked Full e = served_held (λ y f. let z : ◌≡◌ {A = ℕ} 0 1 = cc in omega arith) (asked (ap refusal_of e))
    turn_held asked (Refused y) e = k

  -- ---- a list that is taken changes no turn
  module _ (h : Phone) (k : HeldBeside before v (plan_of plan) h) where
    taken_held : (x : ServedTurn) (rest : List ServedTurn) → h.waiting ≡ x ∷ rest → (kept : List ℕ)
        → HeldBeside before v q (after_taking h x rest kept)
    taken_held x rest w kept =
        let same = same_served h x rest w kept in
        record {
          reached = k.reached;
          chain = subst (λ l. Stretched before v q 0 l k.reached) (sym same) k.chain;
          saved = k.saved;
          alive = k.alive;
          done = ap done_in same ∙ k.done;
        }

    merged_held : (x : ServedTurn) (rest : List ServedTurn) → h.waiting ≡ x ∷ rest → (r : WordsResult) (w : Written)
        → HeldBeside before v q (after_merge h x rest r w)
    merged_held x rest e r (written.Words n) = taken_held x rest e _
    merged_held x rest e r (written.Refused n) = k

    merging_held : (behind : List ℕ) (l : List ServedTurn) → h.waiting ≡ l → HeldBeside before v q (after_merging plan h behind l)
    merging_held behind [] e = k
    merging_held behind (x ∷ rest) e =
        merged_held x rest e (merge_of (merge_input_of plan h behind x)) (merge_of (merge_input_of plan h behind x)).answer

    joining_held : (l : List ServedTurn) → h.waiting ≡ l → HeldBeside before v q (after_joining plan h l)
    joining_held [] e = k
    joining_held (x ∷ rest) e = go (is_rows q.ending)
      where
        go : (b : Bool) → HeldBeside before v q (cond b (after_taking h x rest (h.kept ++ x.list)) h)
        go true = taken_held x rest e (h.kept ++ x.list)
        go false = k

    event_held : (e : Event) → AskedBeside before v plan h e → HeldBeside before v q (happens v plan h e)
    unfolding happens
    event_held (turns behind quantum threshold output) asked =
        turn_held h k behind quantum threshold output asked (turn_of (turn_input_of v plan h behind quantum threshold output)).answer.ending refl
    event_held (merges behind) asked = merging_held behind h.waiting refl
    event_held joins asked = joining_held h.waiting refl

  pub history_held : (es : List Event) (h : Phone) → HeldBeside before v q h → PremisesBeside before v plan h es
      → HeldBeside before v q (history v plan h es)
  unfolding history
  history_held [] h k p = k
  history_held (e ∷ es) h k p = history_held es (happens v plan h e) (event_held h k e p.0) p.1

  pub fresh_held : (state : List ℕ) → Opens v plan state → HeldBeside before v q (fresh (open_of v plan state))
  unfolding done_in after iterate
  fresh_held state o =
      record {
        reached = 0;
        chain = refl;
        saved = (starts_run v plan state o).buffer.front;
        alive = λ m l. absurd (omega arith);
        done = refl;
      }
