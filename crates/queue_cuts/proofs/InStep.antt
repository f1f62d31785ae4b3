-- One owner's turns, as the calls on the queue answer them, are the turns of a cut of its own, whatever the others run.
use Prim.Native.Nat.{ℕ, min}
use mathlib.Core.Path.{◌≡◌, refl, sym, ◌∙◌, ap, subst}
use mathlib.Core.Logic.{◌⊎◌, inl, inr}
use mathlib.Core.Bool.{Bool, true, false, cond}
use mathlib.Core.Option.{Option, none, some}
use mathlib.Core.List.{List, [], ◌∷◌, ◌++◌, append_assoc, append-nil}
use lib.ListN.{length, take, drop, take-append-drop}
use lib.Dec.{eqb}
use borrow.Author.Tests.{eqb-true, eqb-false}
use Rattle.words.specs.declared.Written.{Written}
use Rattle.words.specs.declared.Written.TheVariants as written
use Rattle.words.specs.Tests.{first_failing}
use Rattle.plans.specs.Endings.{Ending, rows, top, group, registers}
use Rattle.plans.specs.Plans.{plan_of}
use Rattle.turns.specs.Surveys.{Survey}
use Rattle.turns.specs.declared.TurnEnding.{TurnEnding}
use Rattle.turns.specs.declared.TurnEnding.TheVariants as ending
use Rattle.turns.specs.Turns.{TurnInput, TurnResult, turn_of}
use Rattle.turns.proofs.Follows.{follows}
use Rattle.calls.specs.Words.{WordsResult}
use Rattle.merges.specs.Merging.{merge_of}
use Rattle.cuts.specs.Histories.{Event, merges, joins, Phone, ServedTurn, served_in, turn_input_of, served_of, after_served, after_turn}
use Rattle.cuts.specs.Histories.{after_taking, merge_input_of, after_merge, after_join, after_merging, after_joining, happens, history}
use Rattle.cuts.proofs.Keeping.{served_more}
use Rattle.queues.specs.declared.Entry.{Entry}
use Rattle.queues.specs.Lists.{LentLists, has_owner, Queue}
use Rattle.queues.specs.Joining.{Joining, new_entry, join_tests}
use Rattle.queues.specs.ToppingUp.{top_up_tests, with_allowance}
use Rattle.queues.specs.Serving.{Serving, ServeResult, entry_turn, entry_after, front_turn, serve_of}
use Rattle.queues.specs.Calls.{QueueCall, join, serve, top_up, MadeCall, lent_to, after_call}
use Rattle.queries.specs.Stepping.{is_served}
use Rattle.queue_cuts.specs.Owners.{Act, calls, merging, joining, own_turn, own_service, if_own, call_events, call_services, own_events}
use Rattle.queue_cuts.specs.Owners.{own_services, after_acts, NotAnother, NeverAgain, NoneOf, HoldsQuery, Waits, gone, in_line, set_aside}
use Rattle.queues.proofs.Moving.{queue, topped_up_lem, join_leaves, joined_to, with_entry, top_up_leaves, topped_to, one_topped}
use Rattle.queue_cuts.proofs.FrontTurns.{other, not_first, none_behind, none_both, none_of_no_one, none_and_one, has_one}
use Rattle.queue_cuts.proofs.FrontTurns.{FrontTold, Serviced, not_served, off, on, out, serves}
use Rattle.queue_cuts.proofs.Arrivals.{comes_new}

-- ---- the owner's own turn, as an event of its cut
module _ (v : Survey) (plan : List ℕ) (owner : ℕ) (s : Serving) (e : Entry) (h : Phone) (k : HoldsQuery owner plan h.saved e) where
  abbrev quantum : ℕ
  quantum = min s.quantum e.allowance

  abbrev behind_saved : List ℕ
  behind_saved = drop e.saved e.state

  abbrev res : TurnResult
  res = front_turn v s e

  same_input : turn_input_of v plan h behind_saved quantum s.threshold s.output ≡ entry_turn v s e quantum
  same_input i =
      record {
        survey = v;
        plan = sym k.plans i;
        state = (ap (λ (ws : List ℕ). ws ++ behind_saved) (sym k.words) ∙ take-append-drop e.saved e.state) i;
        given = k.count i;
        quantum = quantum;
        threshold = s.threshold;
        output = s.output;
      }

  abbrev own : ServedTurn
  own = served_of quantum s.threshold res

  after_served_lem : (x : TurnEnding) → ((z : ℕ) → x ≡ ending.Refused z → ⊥) → after_turn h own x ≡ after_served h own
  after_served_lem ending.Done f = refl
  after_served_lem ending.Spent f = refl
  after_served_lem ending.Full f = refl
  after_served_lem (ending.Refused z) f = absurd (f z refl)

  own_happens : ((x : ℕ) → res.answer.ending ≡ ending.Refused x → ⊥) → happens v plan h (own_turn owner s e) ≡ after_served h own
  unfolding happens
  own_happens f =
      ap (λ (i : TurnInput). after_turn h (served_of quantum s.threshold (turn_of i)) (turn_of i).answer.ending) same_input
      ∙ after_served_lem res.answer.ending f

  -- the entry that goes on holds the words that the turn saved
  still_holds : ((x : ℕ) → res.answer.ending ≡ ending.Refused x → ⊥) → HoldsQuery owner plan own.left (entry_after e res)
  still_holds f =
      let o = (follows (entry_turn v s e quantum) f).state in
      record { its = k.its; plans = k.plans; words = refl; count = ap length o.front ∙ sym o.counted }

  told_same : (y : ServeResult) → FrontTold v s e y → own_service v s e y ≡ own
  told_same y w i =
      record {
        quantum = quantum;
        sent = s.threshold;
        ending = (w.turned i).ending;
        steps = (w.turned i).steps;
        list = take (w.turned i).listed (w.output i);
        left = take (w.turned i).saved res.buffers.state;
      }

-- ---- what one call means for the owner
module _ (v : Survey) (owner : ℕ) (plan : List ℕ) where
  -- nothing of its own happened, or one turn of its own
  data Step (h : Phone) (q : Queue) : List Event → List ServedTurn → Type 0 where
    not_its : Waits owner plan h.saved q → Step h q [] []
    its_turn : (x : Event) (y : ServedTurn) → Waits owner plan (happens v plan h x).saved q → served_in (happens v plan h x) ≡ served_in h ++ (y ∷ [])
        → Step h q (x ∷ []) (y ∷ [])

  -- an entry of another's goes from the front
  module _ (saved : List ℕ) (q : Queue) (e : Entry) (es : List Entry) (front : q.line ≡ e ∷ es) (hers : e.owner ≡ owner → ⊥) where
    abbrev Front : List Entry → List Entry → Type 0
    Front line aside = Waits owner plan saved (queue line aside)

    -- its tail, and some entry of that other's at the end of either list
    tail_waits : Waits owner plan saved q → (xs ys : List Entry) → NoneOf owner xs → NoneOf owner ys → Front (es ++ xs) (q.aside ++ ys)
    tail_waits (gone a b) xs ys n k = gone (none_both owner es xs (none_behind owner e es (subst (NoneOf owner) front a)) n) (none_both owner q.aside ys b k)
    tail_waits (in_line [] behind d is hd a b c) xs ys n k = absurd (hers (let z : e ≡ d = cc in ap (λ (w : Entry). w.owner) z ∙ hd.its))
    tail_waits (in_line (x ∷ before) behind d is hd a b c) xs ys n k =
        let z : es ≡ before ++ (d ∷ behind) = cc in
        in_line before (behind ++ xs) d (ap (λ (w : List Entry). w ++ xs) z ∙ append_assoc before (d ∷ behind) xs) hd (none_behind owner x before a)
        (none_both owner behind xs b n) (none_both owner q.aside ys c k)
    tail_waits (set_aside before behind d is hd a b c) xs ys n k =
        set_aside before (behind ++ ys) d (ap (λ (w : List Entry). w ++ ys) is ∙ append_assoc before (d ∷ behind) ys) hd
        (none_both owner es xs (none_behind owner e es (subst (NoneOf owner) front a)) n) b (none_both owner behind ys c k)

  -- the owner's own entry is at the front
  record AtFront (saved : List ℕ) (q : Queue) (e : Entry) (es : List Entry) : Type 0 where
    holds : HoldsQuery owner plan saved e
    behind_none : NoneOf owner es
    aside_none : NoneOf owner q.aside

  at_front : (saved : List ℕ) (q : Queue) (e : Entry) (es : List Entry) → q.line ≡ e ∷ es → e.owner ≡ owner → Waits owner plan saved q
      → AtFront saved q e es
  at_front saved q e es front hers (gone a b) = absurd (not_first owner e es (subst (NoneOf owner) front a) hers)
  at_front saved q e es front hers (in_line [] behind d is hd a b c) =
      let z : d ≡ e = cc in let y : behind ≡ es = cc in
      record { holds = subst (HoldsQuery owner plan saved) z hd; behind_none = subst (NoneOf owner) y b; aside_none = c }
  at_front saved q e es front hers (in_line (x ∷ before) behind d is hd a b c) =
      let z : x ≡ e = cc in absurd (not_first owner x before a (ap (λ (w : Entry). w.owner) z ∙ hers))
  at_front saved q e es front hers (set_aside before behind d is hd a b c) = absurd (not_first owner e es (subst (NoneOf owner) front a) hers)

  -- ---- serving
  abbrev one_end : List Entry → Entry → List Entry
  one_end es d = es ++ (d ∷ [])

  module _ (h : Phone) (q : Queue) (s : Serving) (y : ServeResult) (w : Waits owner plan h.saved q) where
    abbrev events : List Entry → List Event
    events es = if_own owner es y (own_turn owner s)

    abbrev services : List Entry → List ServedTurn
    services es = if_own owner es y (λ (e : Entry). own_service v s e y)

    -- a refused call is nobody's turn
    nobody's : {A : Type 0} (f : Entry → A) (es : List Entry) → is_served y.answer.turned.ending ≡ false → if_own owner es y f ≡ []
    nobody's f [] e = refl
    nobody's f (x ∷ es) e = rw e (always (has_owner owner x))
      where
        always : {A : Type 0} (b : Bool) → ◌≡◌ {A = List A} (cond b [] []) []
        always true = refl
        always false = refl

    module _ (e : Entry) (es : List Entry) (front : q.line ≡ e ∷ es) (told : FrontTold v s e y) where
      abbrev made : TurnResult
      made = front_turn v s e

      counted : is_served y.answer.turned.ending ≡ true
      counted = ap (λ a. is_served a.ending) told.turned ∙ by_ending_lem made.answer.ending told.served
        where
          by_ending_lem : (x : TurnEnding) → ((z : ℕ) → x ≡ ending.Refused z → ⊥) → is_served x ≡ true
          by_ending_lem ending.Done f = refl
          by_ending_lem ending.Spent f = refl
          by_ending_lem ending.Full f = refl
          by_ending_lem (ending.Refused z) f = absurd (f z refl)

      -- where the front entry, if it goes on, comes to stand: at the end of xs or of ys, or nowhere
      step_of : (line aside : List Entry) (xs ys : List Entry) → line ≡ es ++ xs → aside ≡ q.aside ++ ys
          → ((e.owner ≡ owner → ⊥) → NoneOf owner xs × NoneOf owner ys)
          → (e.owner ≡ owner → (hs : AtFront h.saved q e es)
          → Waits owner plan (take made.answer.saved made.buffers.state) (queue line aside))
          → Step h (queue line aside) (events q.line) (services q.line)
      step_of line aside xs ys f g others own = rw (front, counted) (by_owner_lem (eqb e.owner owner) refl)
        where
          by_owner_lem : (b : Bool) → eqb e.owner owner ≡ b
              → Step h (queue line aside) (cond b (own_turn owner s e ∷ []) []) (cond b (own_service v s e y ∷ []) [])
          by_owner_lem true hers =
              let at = at_front h.saved q e es front (eqb-true e.owner owner hers) w in
              let ev = own_happens v plan owner s e h at.holds told.served in
              its_turn (own_turn owner s e) (own_service v s e y)
              (subst (λ (z : Phone). Waits owner plan z.saved (queue line aside)) (sym ev) (own (eqb-true e.owner owner hers) at))
              (ap served_in ev ∙ served_more h (served_of (min s.quantum e.allowance) s.threshold made)
              ∙ ap (λ (z : ServedTurn). served_in h ++ (z ∷ [])) (sym (told_same v plan owner s e h at.holds y told)))
          by_owner_lem false not-hers =
              let n = others (eqb-false e.owner owner not-hers) in
              not_its (subst (λ (z : Queue). Waits owner plan h.saved z) (λ i. queue (sym f i) (sym g i))
              (tail_waits h.saved q e es front (eqb-false e.owner owner not-hers) w xs ys n.0 n.1))

    serve_step : {q' : Queue} → Serviced v s q y q' → Step h q' (events q.line) (services q.line)
    serve_step (not_served e) = rw (nobody's (own_turn owner s) q.line e, nobody's (λ (x : Entry). own_service v s x y) q.line e) (not_its w)
    serve_step (off e es front told) =
        step_of e es front told es q.aside [] [] (sym (append-nil es)) (sym (append-nil q.aside)) (λ _. (none_of_no_one owner, none_of_no_one owner))
        (λ hers at. gone at.behind_none at.aside_none)
    serve_step (on e es front told f left) =
        let d = entry_after e (front_turn v s e) in
        step_of e es front told (one_end es d) q.aside (d ∷ []) [] refl (sym (append-nil q.aside))
        (λ f. (other owner d [] f (none_of_no_one owner), none_of_no_one owner))
        (λ hers at. in_line es [] d refl (still_holds v plan owner s e h at.holds told.served) at.behind_none (none_of_no_one owner) at.aside_none)
    serve_step (out e es front told f left) =
        let d = entry_after e (front_turn v s e) in
        step_of e es front told es (one_end q.aside d) [] (d ∷ []) (sym (append-nil es)) refl
        (λ f. (none_of_no_one owner, other owner d [] f (none_of_no_one owner)))
        (λ hers at. set_aside q.aside [] d refl (still_holds v plan owner s e h at.holds told.served) at.behind_none at.aside_none
        (none_of_no_one owner))

  -- ---- joining and topping up
  more_waits : (saved : List ℕ) (q : Queue) → Waits owner plan saved q → (xs ys : List Entry) → NoneOf owner xs → NoneOf owner ys
      → Waits owner plan saved (queue (q.line ++ xs) (q.aside ++ ys))
  more_waits saved q (gone a b) xs ys n k = gone (none_both owner q.line xs a n) (none_both owner q.aside ys b k)
  more_waits saved q (in_line before behind d is hd a b c) xs ys n k =
      in_line before (behind ++ xs) d (ap (λ (w : List Entry). w ++ xs) is ∙ append_assoc before (d ∷ behind) xs) hd a (none_both owner behind xs b n)
      (none_both owner q.aside ys c k)
  more_waits saved q (set_aside before behind d is hd a b c) xs ys n k =
      set_aside before (behind ++ ys) d (ap (λ (w : List Entry). w ++ ys) is ∙ append_assoc before (d ∷ behind) ys) hd
      (none_both owner q.line xs a n) b (none_both owner behind ys c k)

  join_waits : (saved : List ℕ) (q : Queue) (m : MadeCall) (j : Joining) → NotAnother v owner q (lent_to q m) (join j)
      → Waits owner plan saved q → Waits owner plan saved (after_call v q (lent_to q m) (join j))
  join_waits saved q m j first w =
      subst (Waits owner plan saved) (sym (join_leaves v q m j)) (by_tests (first_failing (join_tests v (lent_to q m) j)) refl)
    where
      l : LentLists
      l = lent_to q m

      d : Entry
      d = new_entry j

      -- a served join is another's: were it this owner's, it would have no entry
      another's : first_failing (join_tests v l j) ≡ none → j.owner ≡ owner → ⊥
      another's passed hers =
          let free = comes_new v q m j passed in
          first (subst (λ (o : ℕ). NoneOf o q.line) hers free.0) (subst (λ (o : ℕ). NoneOf o q.aside) hers free.1) passed hers

      by_steps : NoneOf owner (d ∷ []) → (b : Bool) → Waits owner plan saved (with_entry v q m j b)
      by_steps n true =
          subst (λ (es : List Entry). Waits owner plan saved (queue es (q.aside ++ (d ∷ [])))) (append-nil q.line)
          (more_waits saved q w [] (d ∷ []) (none_of_no_one owner) n)
      by_steps n false =
          subst (λ (es : List Entry). Waits owner plan saved (queue (q.line ++ (d ∷ [])) es)) (append-nil q.aside)
          (more_waits saved q w (d ∷ []) [] n (none_of_no_one owner))

      by_tests : (o : Option ℕ) → first_failing (join_tests v l j) ≡ o → Waits owner plan saved (joined_to v q m j o)
      by_tests (some x) e = w
      by_tests none e = by_steps (other owner d [] (another's e) (none_of_no_one owner)) (eqb j.allowance 0)

  -- one entry goes from the list set aside to the end of the line
  module _ (saved : List ℕ) (q : Queue) (before behind : List Entry) (d : Entry) (n : ℕ) (whole : q.aside ≡ before ++ (d ∷ behind)) where
    abbrev d' : Entry
    d' = with_allowance n d

    without : (xs ys zs : List Entry) (e : Entry) → xs ≡ ys ++ (e ∷ zs) → NoneOf owner xs → NoneOf owner (ys ++ zs)
    without xs ys zs e is h = drop_one ys (subst (NoneOf owner) is h)
      where
        drop_one : (ys : List Entry) → NoneOf owner (ys ++ (e ∷ zs)) → NoneOf owner (ys ++ zs)
        drop_one [] h = none_behind owner e zs h
        drop_one (x ∷ ys) h = other owner x (ys ++ zs) (not_first owner x (ys ++ (e ∷ zs)) h) (drop_one ys (none_behind owner x (ys ++ (e ∷ zs)) h))

    not_in : (xs ys zs : List Entry) (e : Entry) → xs ≡ ys ++ (e ∷ zs) → NoneOf owner xs → e.owner ≡ owner → ⊥
    not_in xs ys zs e is h f = has_one owner ys zs e f (subst (NoneOf owner) is h)

    -- the owner's entry among others: the one that goes, or one that stays
    which : (ks bs : List Entry) (xs ys : List Entry) (e : Entry) → e.owner ≡ owner → ks ++ (d ∷ bs) ≡ xs ++ (e ∷ ys) → NoneOf owner xs
        → NoneOf owner ys
        → ((e ≡ d) × NoneOf owner (ks ++ bs)) ⊎
        ((d.owner ≡ owner
        → ⊥) × ((us : List Entry) × ((vs : List Entry) × ((ks ++ bs ≡ us ++ (e ∷ vs)) × (NoneOf owner us × NoneOf owner vs)))))
    which [] bs [] ys e hers is a b = inl (let z : e ≡ d = cc in let y : ys ≡ bs = cc in (z, subst (NoneOf owner) y b))
    which [] bs (x ∷ xs) ys e hers is a b = let z : x ≡ d = cc in let y : bs ≡ xs ++ (e ∷ ys) = cc in
        inr (subst (λ (w : Entry). w.owner ≡ owner → ⊥) z (not_first owner x xs a), (xs, (ys, (y, (none_behind owner x xs a, b)))))
    which (c ∷ ks) bs [] ys e hers is a b =
        let y : ks ++ (d ∷ bs) ≡ ys = cc in let z : c ≡ e = cc in
        let n' = subst (NoneOf owner) (sym y) b in
        inr (
          has_one' ks bs n',
          ([], (ks ++ bs, (ap (λ (w : Entry). w ∷ (ks ++ bs)) z, (none_of_no_one owner, without (ks ++ (d ∷ bs)) ks bs d refl n')))),
        )
      where
        has_one' : (us vs : List Entry) → NoneOf owner (us ++ (d ∷ vs)) → d.owner ≡ owner → ⊥
        has_one' us vs h f = has_one owner us vs d f h
    which (c ∷ ks) bs (x ∷ xs) ys e hers is a b =
        let z : c ≡ x = cc in let y : ks ++ (d ∷ bs) ≡ xs ++ (e ∷ ys) = cc in
        elim (which ks bs xs ys e hers y (none_behind owner x xs a) b) [
          | inl w ↦ inl (w.0, other owner c (ks ++ bs) (subst (λ (w : Entry). w.owner ≡ owner → ⊥) (sym z) (not_first owner x xs a)) w.1)
          | inr w ↦ inr (
            w.0,
            (
              c ∷ w.1.0,
              (
                w.1.1.0,
                (
                  ap (λ (l : List Entry). c ∷ l) w.1.1.1.0,
                  (
                    other owner c w.1.0 (subst (λ (w : Entry). w.owner ≡ owner → ⊥) (sym z) (not_first owner x xs a))
                        w.1.1.1.1.0,
                    w.1.1.1.1.1,
                  ),
                ),
              ),
            ),
          )
        ]

    returned : Waits owner plan saved q → Waits owner plan saved (queue (q.line ++ (d' ∷ [])) (before ++ behind))
    returned (gone a b) = gone (none_and_one owner q.line d' a (not_in q.aside before behind d whole b)) (without q.aside before behind d whole b)
    returned (in_line xs ys e is hd a b c) =
        in_line xs (ys ++ (d' ∷ [])) e (ap (λ (w : List Entry). w ++ (d' ∷ [])) is ∙ append_assoc xs (e ∷ ys) (d' ∷ [])) hd a
        (none_and_one owner ys d' b (not_in q.aside before behind d whole c)) (without q.aside before behind d whole c)
    returned (set_aside xs ys e is hd a b c) =
        elim (which before behind xs ys e hd.its (sym whole ∙ is) b c) [
          | inl w ↦ in_line q.line [] d' refl (same_words_lem (subst (HoldsQuery owner plan saved) w.0 hd)) a (none_of_no_one owner) w.1
          | inr w ↦ set_aside w.1.0 w.1.1.0 e w.1.1.1.0 hd (none_and_one owner q.line d' a w.0) w.1.1.1.1.0 w.1.1.1.1.1
        ]
      where
        same_words_lem : HoldsQuery owner plan saved d → HoldsQuery owner plan saved d'
        same_words_lem k = record { its = k.its; plans = k.plans; words = k.words; count = k.count }

  top_up_waits : (saved : List ℕ) (q : Queue) (m : MadeCall) (o n : ℕ) → Waits owner plan saved q
      → Waits owner plan saved (after_call v q (lent_to q m) (top_up o n))
  top_up_waits saved q m o n w =
      subst (Waits owner plan saved) (sym (top_up_leaves q m v o n)) (by_tests (first_failing (top_up_tests l o n)) refl)
    where
      l : LentLists
      l = lent_to q m

      by_tests : (x : Option ℕ) → first_failing (top_up_tests l o n) ≡ x → Waits owner plan saved (topped_to q m o n x)
      by_tests (some x) e = w
      by_tests none e =
          let f = topped_up_lem q m o n e in
          subst (Waits owner plan saved) (sym (one_topped q m o n e))
          (returned saved q f.before f.behind f.entry n f.whole w)

  -- ---- the phone takes a list: no words are saved and no turn is served by it
  record Unmoved (h k : Phone) : Type 0 where
    saved : k.saved ≡ h.saved
    served : served_in k ≡ served_in h

  taking : (h : Phone) (x : ServedTurn) (rest : List ServedTurn) (kept : List ℕ) → h.waiting ≡ x ∷ rest → Unmoved h (after_taking h x rest kept)
  taking h x rest kept e = record { saved = refl; served = append_assoc h.taken (x ∷ []) rest ∙ ap (λ (xs : List ServedTurn). h.taken ++ xs) (sym e) }

  merge_unmoved : (h : Phone) (behind : List ℕ) → Unmoved h (happens v plan h (merges behind))
  unfolding happens
  merge_unmoved h behind = by_waiting h.waiting refl
    where
      by_answer : (x : ServedTurn) (rest : List ServedTurn) → h.waiting ≡ x ∷ rest → (y : WordsResult) (a : Written)
          → Unmoved h (after_merge h x rest y a)
      by_answer x rest e y (written.Words n) = taking h x rest (take n y.buffers) e
      by_answer x rest e y (written.Refused n) = record { saved = refl; served = refl }

      by_waiting : (xs : List ServedTurn) → h.waiting ≡ xs → Unmoved h (after_merging plan h behind xs)
      by_waiting [] e = record { saved = refl; served = refl }
      by_waiting (x ∷ rest) e = by_answer x rest e (merge_of (merge_input_of plan h behind x)) (merge_of (merge_input_of plan h behind x)).answer

  join_unmoved : (h : Phone) → Unmoved h (happens v plan h joins)
  unfolding happens
  join_unmoved h = by_waiting h.waiting refl
    where
      by_kind : (x : ServedTurn) (rest : List ServedTurn) → h.waiting ≡ x ∷ rest → (e : Ending) → Unmoved h (after_join e h x rest)
      by_kind x rest e (rows vs) = taking h x rest (h.kept ++ x.list) e
      by_kind x rest e (top k vs keys) = record { saved = refl; served = refl }
      by_kind x rest e (group vs m) = record { saved = refl; served = refl }
      by_kind x rest e (registers y) = record { saved = refl; served = refl }

      by_waiting : (xs : List ServedTurn) → h.waiting ≡ xs → Unmoved h (after_joining plan h xs)
      by_waiting [] e = record { saved = refl; served = refl }
      by_waiting (x ∷ rest) e = by_kind x rest e (plan_of plan).ending

  -- ---- any list of calls and takings
  pub record InStep (q : Queue) (h : Phone) (acts : List Act) : Type 0 where
    -- the owner's entry holds the words that its own cut saved, or it has left
    pub waits : Waits owner plan (history v plan h (own_events v owner q acts)).saved (after_acts v q acts)
    -- the turns of that cut are those that the calls answered
    pub served : served_in (history v plan h (own_events v owner q acts)) ≡ served_in h ++ own_services v owner q acts

  -- what one call means
  call_step : (q : Queue) (h : Phone) (m : MadeCall) (c : QueueCall) → Waits owner plan h.saved q
      → NotAnother v owner q (lent_to q m) c
      → Step h (after_call v q (lent_to q m) c) (call_events v owner q m c) (call_services v owner q m c)
  call_step q h m (join j) w n = not_its (join_waits h.saved q m j n w)
  call_step q h m (serve s) w n = serve_step h q s (serve_of v (lent_to q m) s) w (serves v q m s)
  call_step q h m (top_up o k) w n = not_its (top_up_waits h.saved q m o k w)

  -- and then the rest
  go_on : (q : Queue) (h : Phone) (acts : List Act) {es : List Event} {xs : List ServedTurn} → Step h q es xs
      → ((h' : Phone) → Waits owner plan h'.saved q → InStep q h' acts)
      → Waits owner plan (history v plan h (es ++ own_events v owner q acts)).saved (after_acts v q acts)
      × (served_in (history v plan h (es ++ own_events v owner q acts)) ≡ served_in h ++ (xs ++ own_services v owner q acts))
  unfolding history
  go_on q h acts (not_its w) again = ((again h w).waits, (again h w).served)
  go_on q h acts (its_turn x y w e) again =
      let i = again (happens v plan h x) w in (
        i.waits,
        i.served ∙ ap (λ (zs : List ServedTurn). zs ++ own_services v owner q acts) e
            ∙ append_assoc (served_in h) (y ∷ []) (own_services v owner q acts),
      )

  pub in_step : (acts : List Act) (q : Queue) (h : Phone) → Waits owner plan h.saved q → NeverAgain v owner q acts → InStep q h acts
  unfolding history own_events own_services after_acts
  in_step [] q h w a = record { waits = w; served = sym (append-nil (served_in h)) }
  in_step (merging behind ∷ acts) q h w a =
      let u = merge_unmoved h behind in
      let i = in_step acts q (happens v plan h (merges behind)) (subst (λ (ws : List ℕ). Waits owner plan ws q) (sym u.saved) w) a in
      record { waits = i.waits; served = i.served ∙ ap (λ (xs : List ServedTurn). xs ++ own_services v owner q acts) u.served }
  in_step (joining ∷ acts) q h w a =
      let u = join_unmoved h in
      let i = in_step acts q (happens v plan h joins) (subst (λ (ws : List ℕ). Waits owner plan ws q) (sym u.saved) w) a in
      record { waits = i.waits; served = i.served ∙ ap (λ (xs : List ServedTurn). xs ++ own_services v owner q acts) u.served }
  in_step (calls m ∷ acts) q h w a =
      let q' = after_call v q (lent_to q m) m.call in
      let g = go_on q' h acts (call_step q h m m.call w a.0) (λ h' w'. in_step acts q' h' w' a.1) in
      record { waits = g.0; served = g.1 }
