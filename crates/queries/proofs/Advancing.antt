-- A query under way, and one turn more whose list is taken: it is under way again, it is over, or it is stopped and nothing is taken.
use Prim.Native.Nat.{ℕ, ◌+◌, ◌≤◌}
use native.Mathlib.Omega.{arith}
use mathlib.Core.Path.{◌≡◌, refl, sym, ◌∙◌, ap, ap₂, subst, subst⁻¹}
use mathlib.Core.Bool.{Bool, true, false, cond}
use mathlib.Core.Option.{Option, none, some}
use mathlib.Core.List.{List, [], ◌∷◌, ◌++◌, append-nil}
use lib.ListN.{length, take, drop, length-append, take-append-drop}
use Rattle.sequences.specs.Sequences.{over}
use Rattle.sequences.proofs.Booleans.{absurd_true}
use Rattle.sequences.proofs.Buffers.{take_over, length_over, over_over}
use Rattle.tables.specs.Tables.{Tables}
use Rattle.plans.specs.Plans.{Plan, plan_of}
use Rattle.steps.specs.Steps.{State, after}
use Rattle.steps.specs.Saved.{saved_words, state_words}
use Rattle.lists.specs.Thresholds.{absent}
use Rattle.turns.specs.Surveys.{Survey}
use Rattle.turns.specs.declared.TurnEnding.{TurnEnding}
use Rattle.turns.specs.declared.TurnEnding.TheVariants as ending
use Rattle.turns.specs.Turns.{is_done, TurnInput, turn_of}
use Rattle.turns.proofs.Follows.{follows}
use Rattle.turns.proofs.OnTheRun.{keeps_lengths}
use Rattle.cuts.specs.Histories.{Event, turns, Phone, ServedTurn, served_in, steps_in, done_in, turn_input_of, served_of, after_served, after_turn}
use Rattle.cuts.specs.Histories.{after_taking, happens, history}
use Rattle.cuts.specs.Premises.{Asked, Premises}
use Rattle.cuts.specs.Uncut.{kept_after, run_fits}
use Rattle.cuts.specs.Unsent.{Unsent, StepForStep}
use Rattle.cuts.specs.Accepting.{Accepted, Passed}
use Rattle.cuts.proofs.Accepting.{accepted_form}
use Rattle.cuts.proofs.Placing.{unsent_append}
use Rattle.cuts.proofs.Chains.{steps_more, done_more}
use Rattle.cuts.proofs.Keeping.{Kept, as_uncut, taken_to}
use Rattle.cuts.proofs.AnyCut.{history_keeps}
use Rattle.cuts.proofs.Unsent.{step_for_step}
use Rattle.queries.specs.declared.Keeping.{Keeping}
use Rattle.queries.specs.Stepping.{is_served, keeps, kept_of}
use Rattle.queries.proofs.UnderWay.{UnderWay}
use Rattle.queries.proofs.Taking.{is_served_lem}
use Rattle.queries.proofs.Lengths.{no_shorter}

-- ---- one call more
module _ (v : Survey) (plan : List ℕ) where
  pub history_more : (es : List Event) (h : Phone) (e : Event) → history v plan h (es ++ (e ∷ [])) ≡ happens v plan (history v plan h es) e
  unfolding history
  history_more [] h e = refl
  history_more (x ∷ es) h e = history_more es (happens v plan h x) e

  pub premises_more : (es : List Event) (h : Phone) (e : Event) → Premises v plan h es → Asked v plan (history v plan h es) e
      → Premises v plan h (es ++ (e ∷ []))
  unfolding history
  premises_more [] h e p a = (a, tt)
  premises_more (x ∷ es) h e p a = (p.0, premises_more es (happens v plan h x) e p.1 a)

-- a served turn leaves what its result says
served_after : (h : Phone) (x : ServedTurn) (e : TurnEnding) → is_served e ≡ true → after_turn h x e ≡ after_served h x
served_after h x ending.Done f = refl
served_after h x ending.Spent f = refl
served_after h x ending.Full f = refl
served_after h x (ending.Refused y) f = absurd_true f refl

-- no words are no state's
pub some_words : (survey : ℕ) (o : Option State) → ¬ (saved_words survey o ≡ []) → (s : State) × (o ≡ some s)
some_words survey none f = absurd (f refl)
some_words survey (some s) f = (s, refl)

not-true : (b : Bool) → ¬ (b ≡ true) → b ≡ false
not-true true f = absurd (f refl)
not-true false f = refl

pub no_elements : {A : Type 0} (xs : List A) → length xs ≡ 0 → xs ≡ []
no_elements [] e = refl
no_elements (x ∷ xs) e = absurd (omega arith)

-- of a longer list no less is kept
kept_longer : (b : Bool) (xs ys : List ℕ) → length xs ≤ length ys → length (cond b xs []) ≤ length (cond b ys [])
kept_longer true xs ys l = l
kept_longer false xs ys l = omega arith

module _ (keep : Keeping) (v : Survey) (plan : List ℕ) (a : Accepted v.tables plan) (first : Phone)
    (k : Kept v (plan_of plan) first) (before : List ℕ) where
  abbrev t : Tables
  t = v.tables

  abbrev q : Plan
  q = plan_of plan

  -- what is kept of a list
  abbrev part : List ℕ → List ℕ
  part = kept_of keep q.ending

  module _ (count : ℕ) (state : List ℕ) (saved : ℕ) (kept : List ℕ) (used : ℕ)
      (u : UnderWay keep v plan first before count state saved kept used) where
    abbrev h : Phone
    h = u.held

    pub held_keeps : Kept v q h
    held_keeps = subst (Kept v q) u.reached (history_keeps v plan a u.events first k u.premises)

    -- every list is taken
    pub all_taken : served_in h ≡ h.taken
    all_taken = ap (λ l. h.taken ++ l) u.taken ∙ append-nil h.taken

    pub held_uncut : StepForStep v q h
    held_uncut = step_for_step v q h (subst⁻¹ Unsent all_taken u.unsent) (as_uncut v q (accepted_form t plan a).ending h held_keeps)

    pub kept_front : take used kept ≡ part h.kept
    kept_front = ap₂ take u.words u.list ∙ take_over (part h.kept) before

    pub kept_whole : part h.kept ++ drop used kept ≡ kept
    kept_whole = ap (λ l. l ++ drop used kept) (sym kept_front) ∙ take-append-drop used kept

    pub kept_length : length kept ≡ length before
    kept_length = ap length u.list ∙ length_over (part h.kept) before (omega (arith, u.words, u.room))

    module _ (quantum : ℕ) (output : List ℕ) where
      abbrev i : TurnInput
      i = record { survey = v; plan = plan; state = state; given = saved; quantum = quantum; threshold = []; output = output }

      abbrev call : Event
      call = turns (drop saved state) quantum [] output

      same_input : turn_input_of v plan h (drop saved state) quantum [] output ≡ i
      same_input =
          ap₂ (λ s g. record { survey = v; plan = plan; state = s; given = g; quantum = quantum; threshold = []; output = output })
          (ap (λ l. l ++ drop saved state) (sym u.state_words_fact) ∙ take-append-drop saved state) (sym u.state_count)

      -- the turn is given the state of the uncut run after the lists taken
      pub given_state_lem : ¬ (saved ≡ 0)
          → (s : State) × ((after t q (steps_in h.taken)).state ≡ some s) × (take saved state ≡ state_words v.number s)
      given_state_lem f =
          let kept-words = held_uncut.state ∙ ap (λ l. saved_words v.number (after t q (steps_in l)).state) all_taken in
          let s = some_words v.number (after t q (steps_in h.taken)).state (λ e. f (u.state_count ∙ ap length (kept-words ∙ e))) in
          (s.0, s.1, u.state_words_fact ∙ kept-words ∙ ap (saved_words v.number) s.1)

      pub given_passed : ¬ (saved ≡ 0) → Passed i
      given_passed f =
          let s = given_state_lem f in
          record { there = there; few = u.few; steps = steps_in h.taken; state = s.0; passes = s.1; words = s.2 }
        where
          there : saved ≤ length state
          there =
              let e = ap length (ap (λ l. l ++ drop saved state) (sym u.state_words_fact) ∙ take-append-drop saved state) in
              omega (arith, e, length-append h.saved (drop saved state), u.state_count)

      module _ (served : is_served (turn_of i).answer.ending ≡ true) where
        abbrev x : ServedTurn
        x = served_of quantum [] (turn_of i)

        abbrev turned : Phone
        turned = after_served h x

        turn_made : happens v plan h call ≡ turned
        unfolding happens
        turn_made =
            ap (λ j. after_turn h (served_of quantum [] (turn_of j)) (turn_of j).answer.ending) same_input
            ∙ served_after h x (turn_of i).answer.ending served

        pub one_waits : turned.waiting ≡ x ∷ []
        one_waits = ap (λ l. l ++ (x ∷ [])) u.taken

        abbrev calls : List Event
        calls = u.events ++ (call ∷ [])

        calls_reach : history v plan first calls ≡ turned
        calls_reach = history_more v plan u.events first call ∙ ap (λ z. happens v plan z call) u.reached ∙ turn_made

        calls_premises : Premises v plan first calls
        calls_premises = premises_more v plan u.events first call u.premises (λ _. absent)

        pub turned_keeps : Kept v q turned
        turned_keeps = subst (Kept v q) calls_reach (history_keeps v plan a calls first k calls_premises)

        -- the list of that turn is taken by one call more
        module _ (e : Event) (asked : Asked v plan turned e) (list : List ℕ) (taken : happens v plan turned e ≡ after_taking turned x [] list) where
          abbrev now : Phone
          now = after_taking turned x [] list

          more_reach : history v plan first (calls ++ (e ∷ [])) ≡ now
          more_reach = history_more v plan calls first e ∙ ap (λ z. happens v plan z e) calls_reach ∙ taken

          more_premises : Premises v plan first (calls ++ (e ∷ []))
          more_premises = premises_more v plan calls first e calls_premises (subst⁻¹ (λ z. Asked v plan z e) calls_reach asked)

          pub now_keeps : Kept v q now
          now_keeps = subst (Kept v q) more_reach (history_keeps v plan a (calls ++ (e ∷ [])) first k more_premises)

          now_unsent : Unsent now.taken
          now_unsent = unsent_append h.taken (x ∷ []) u.unsent (refl, tt)

          pub now_list : list ≡ kept_after t q (steps_in h.taken + x.steps)
          now_list = now_keeps.list ∙ ap (kept_after t q) (taken_to v q now now_keeps now_unsent ∙ steps_more h.taken x)

          pub kept_shorter : length (part h.kept) ≤ length (part list)
          kept_shorter =
              kept_longer (keeps keep q.ending) h.kept list
              (omega (arith, ap length now_list, ap length held_uncut.list, no_shorter t plan a (steps_in h.taken) x.steps))

          module _ (fits : run_fits q.ending (after t q (steps_in h.taken + x.steps)) ≡ true)
              (new : List ℕ) (words : ℕ) (whole : new ≡ over (part list) kept) (counted : words ≡ length (part list))
              (room : words ≤ length kept) where
            -- done was answered exactly by a turn that was done
            done_then : ¬ (saved ≡ 0) → done_in (served_in now) ≡ is_done (turn_of i).answer.ending
            done_then f =
                let going : done_in (served_in h) ≡ false = not-true (done_in (served_in h)) (λ d.
                f (u.state_count ∙ ap length (held_uncut.end.1 (held_uncut.done.0 d)))) in
                ap done_in (append-nil (h.taken ++ (x ∷ [])))
                ∙ done_more h.taken x (ap done_in (sym all_taken) ∙ going)

            pub goes_on_fact : ¬ (saved ≡ 0)
                → (v : UnderWay keep v plan first before (count + 1) (turn_of i).buffers.state (turn_of i).answer.saved new words)
                × (done_in (served_in v.held) ≡ is_done (turn_of i).answer.ending)
                × (steps_in v.held.taken ≡ steps_in h.taken + x.steps)
            goes_on_fact f =
                let s = follows i (is_served_lem i served) in (
                  record {
                    few = u.few;
                    events = calls ++ (e ∷ []);
                    premises = more_premises;
                    held = now;
                    reached = more_reach;
                    taken = refl;
                    turns = length-append h.taken (x ∷ []) ∙ ap (λ n. n + 1) u.turns;
                    unsent = now_unsent;
                    state_words_fact = refl;
                    state_count = s.state.counted ∙ ap length (sym s.state.front);
                    state_room_fact = omega (arith, (keeps_lengths i (is_served_lem i served)).state, u.state_room_fact);
                    fits = ap (λ d. run_fits q.ending (after t q d)) (steps_more h.taken x) ∙ fits;
                    list = whole ∙ over_over (part list) (part h.kept) before kept kept_shorter u.list;
                    words = counted;
                    room = omega (arith, kept_length, room);
                  },
                  done_then f,
                  steps_more h.taken x,
                )
