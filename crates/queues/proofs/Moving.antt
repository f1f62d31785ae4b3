-- What one call does to both lists: one of a few moves of one entry, or nothing.
use Prim.Native.Nat.{ℕ, ◌-◌, ◌≤◌, min}
use native.Mathlib.Nat.{le_trans, min-le_right}
use native.Mathlib.Omega.{arith}
use mathlib.Core.Path.{◌≡◌, refl, sym, ◌∙◌, ap, subst}
use mathlib.Core.Bool.{Bool, true, false, cond, ◌&&◌, ◌||◌, not}
use mathlib.Core.Option.{Option, none, some}
use mathlib.Core.List.{List, [], ◌∷◌, ◌++◌, map}
use lib.ListN.{length, take}
use lib.Seq.{take-append_seam}
use lib.Dec.{eqb, leb}
use borrow.Author.Tests.{eqb-true, eqb-false, eq-eqb, ne_eqb, not-true}
use Rattle.sequences.specs.Sequences.{all, keep, member, distinct}
use Rattle.words.specs.Tests.{Test, first_failing}
use Rattle.sequences.proofs.Booleans.{absurd_true, and_left, and_right, or_left, or_right}
use Rattle.words.proofs.Testing.{none_some}
use Rattle.calls.specs.Calls.{result_by_number, result_of_call}
use Rattle.turns.specs.Surveys.{Survey}
use Rattle.turns.specs.declared.TurnEnding.{TurnEnding}
use Rattle.turns.specs.declared.TurnEnding.TheVariants as ending
use Rattle.turns.specs.Turns.{TurnResult}
use Rattle.turns.proofs.Progress.{progresses}
use Rattle.queues.specs.declared.Entry.{Entry}
use Rattle.queues.specs.Lists.{LentLists, has_steps, has_none, line_of, aside_of, entries_over, owners_in, owners, entries_right, has_owner, Queue}
use Rattle.queues.specs.Changing.{lists_with}
use Rattle.queues.specs.Joining.{Joining, new_entry, admitted, join_schema, join_tests}
use Rattle.queues.specs.ToppingUp.{not_owner, with_allowance, topped_up, top_up_schema, top_up_tests}
use Rattle.queues.specs.Serving.{Serving, entry_turn, ServeResult, entry_after, requeued, turned_to, front_turn, front_served, serve_schema}
use Rattle.queues.specs.Serving.{serve_tests, service_with}
use Rattle.queues.specs.Calls.{QueueCall, join, serve, top_up, MadeCall, lent_to, Deed, grants, turns, nothing}
use Rattle.queues.specs.Calls.{after_queued, after_service, after_call}
use Rattle.queues.specs.Calls.{granted, took_turn, deed_of}

abbrev pub queue : List Entry → List Entry → Queue
queue line aside = record { line = line; aside = aside }

pub data Moves : Queue → Queue → Deed → Type 0 where
  stays : {q : Queue} → Moves q q nothing
  waits : {q : Queue} (e : Entry) → Moves q (queue (q.line ++ (e ∷ [])) q.aside) (grants e.owner e.allowance)
  rests : {q : Queue} (e : Entry) → e.allowance ≡ 0 → Moves q (queue q.line (q.aside ++ (e ∷ []))) (grants e.owner e.allowance)
  returns : (line before behind : List Entry) (e : Entry) (n : ℕ) → e.allowance ≡ 0
      → Moves (queue line (before ++ (e ∷ behind))) (queue (line ++ (with_allowance n e ∷ [])) (before ++ behind)) (grants e.owner n)
  leaves : (e : Entry) (es aside : List Entry) (n : ℕ) → n ≤ e.allowance
      → Moves (queue (e ∷ es) aside) (queue es aside) (turns e.owner ending.Done n (e.allowance - n))
  goes_on_fact : (e d : Entry) (es aside : List Entry) (x : TurnEnding) (n : ℕ) → n ≤ e.allowance → (x ≡ ending.Done → ⊥) → d.owner ≡ e.owner
      → d.allowance ≡ e.allowance - n
      → Moves (queue (e ∷ es) aside) (queue (es ++ (d ∷ [])) aside) (turns e.owner x n (e.allowance - n))
  runs_out : (e d : Entry) (es aside : List Entry) (x : TurnEnding) (n : ℕ) → n ≤ e.allowance → (x ≡ ending.Done → ⊥) → d.owner ≡ e.owner
      → d.allowance ≡ e.allowance - n → d.allowance ≡ 0
      → Moves (queue (e ∷ es) aside) (queue es (aside ++ (d ∷ []))) (turns e.owner x n (e.allowance - n))

-- ---- both lists between calls
pub line_lent : (q : Queue) (m : MadeCall) → line_of (lent_to q m) ≡ q.line
line_lent q m = take-append_seam q.line m.behind_line

pub aside_lent : (q : Queue) (m : MadeCall) → aside_of (lent_to q m) ≡ q.aside
aside_lent q m = take-append_seam q.aside m.behind_aside

-- the lists that are written are read back
read_back : (l : LentLists) (q : Queue)
    → queue (take (length q.line) (lists_with l q).buffers.line) (take (length q.aside) (lists_with l q).buffers.aside) ≡ q
read_back l q = λ i. queue (seam q.line l.line i) (seam q.aside l.aside i)
  where
    seam : (es buffer : List Entry) → take (length es) (entries_over es buffer) ≡ es
    seam es buffer = take-append_seam es _

pub both_taken : (l : LentLists) (line aside : List Entry) (line' aside' : List Entry) → line ≡ line' → aside ≡ aside'
    → queue (take (length line) (entries_over line l.line)) (take (length aside) (entries_over aside l.aside)) ≡ queue line' aside'
both_taken l line aside line' aside' e f = read_back l (queue line aside) ∙ (λ i. queue (e i) (f i))

-- ---- joining
module _ (v : Survey) (q : Queue) (m : MadeCall) (j : Joining) where
  abbrev l : LentLists
  l = lent_to q m

  -- the new entry at the end of the line, or of the list set aside; the queue as it was where a test fails
  abbrev pub with_entry : Bool → Queue
  with_entry b = cond b (queue q.line (q.aside ++ (new_entry j ∷ []))) (queue (q.line ++ (new_entry j ∷ [])) q.aside)

  abbrev pub joined_to : Option ℕ → Queue
  joined_to (some x) = q
  joined_to none = with_entry (eqb j.allowance 0)

  pub join_leaves : after_call v q l (join j) ≡ joined_to (first_failing (join_tests v l j))
  unfolding result_of_call
  join_leaves = by_tests (first_failing (join_tests v l j))
    where
      by_tests : (o : Option ℕ)
          → after_queued q (result_by_number (join_schema v l) j o) (result_by_number (join_schema v l) j o).answer ≡ joined_to o
      by_tests (some x) = refl
      by_tests none = read_back l (admitted l (new_entry j)) ∙ (λ i. cond (eqb j.allowance 0)
          (queue (line_lent q m i) (aside_lent q m i ++ (new_entry j ∷ []))) (queue (line_lent q m i ++ (new_entry j ∷ [])) (aside_lent q m i)))

  join_moves : (o : Option ℕ) → Moves q (joined_to o) (granted j.owner j.allowance (result_by_number (join_schema v l) j o).answer)
  join_moves (some x) = stays
  join_moves none = by_steps (eqb j.allowance 0) refl
    where
      -- whichever list it goes to
      by_steps : (b : Bool) → eqb j.allowance 0 ≡ b → Moves q (with_entry b) (grants j.owner j.allowance)
      by_steps true z = rests (new_entry j) (eqb-true j.allowance 0 z)
      by_steps false z = waits (new_entry j)

-- ---- topping up
pub distinct_right : (xs ys : List ℕ) → distinct (xs ++ ys) ≡ true → distinct ys ≡ true
unfolding distinct
distinct_right [] ys d = d
distinct_right (x ∷ xs) ys d = distinct_right xs ys (and_right (not (member x (xs ++ ys))) (distinct (xs ++ ys)) d)

pub same_either_way : (a b : ℕ) (c : Bool) → eqb a b ≡ c → eqb b a ≡ c
same_either_way a b true e = rw (eqb-true a b e) (eq-eqb b b refl)
same_either_way a b false e = ne_eqb b a (λ f. eqb-false a b e (sym f))

-- no entry of the owner's: none is kept out
pub kept_none : (owner : ℕ) (es : List Entry) → member owner (owners_in es) ≡ false
    → (keep (has_owner owner) es ≡ []) × (keep (not_owner owner) es ≡ es)
unfolding member keep
kept_none owner [] h = (refl, refl)
kept_none owner (e ∷ es) h =
    let other = same_either_way owner e.owner false (or_left (eqb owner e.owner) (member owner (owners_in es)) h) in
    let rest = kept_none owner es (or_right (eqb owner e.owner) (member owner (owners_in es)) h) in
    (rw other rest.0, rw other (ap (λ (xs : List Entry). e ∷ xs) rest.1))

pub record FoundEntry (owner : ℕ) (es : List Entry) : Type 0 where
  pub before : List Entry
  pub entry : Entry
  pub behind : List Entry
  pub whole : es ≡ before ++ (entry ∷ behind)
  pub its : entry.owner ≡ owner
  pub nothing_left_fact : entry.allowance ≡ 0
  pub taken_out : keep (has_owner owner) es ≡ entry ∷ []
  pub others : keep (not_owner owner) es ≡ before ++ behind

pub found : (owner : ℕ) (es : List Entry) → member owner (owners_in es) ≡ true → distinct (owners_in es) ≡ true → all has_none es ≡ true
    → FoundEntry owner es
unfolding member distinct keep all
found owner [] h d z = absurd_true h refl
found owner (e ∷ es) h d z =
    by_owner_lem (λ m. found owner es m (and_right (not (member e.owner (owners_in es))) (distinct (owners_in es)) d)
    (and_right (has_none e) (all has_none es) z))
    (eqb e.owner owner) refl
  where
    by_owner_lem : (member owner (owners_in es) ≡ true → FoundEntry owner es) → (b : Bool) → eqb e.owner owner ≡ b → FoundEntry owner (e ∷ es)
    by_owner_lem again true same =
        let none_behind : member owner (owners_in es) ≡ false = rw (← eqb-true e.owner owner same)
        (not-true (member e.owner (owners_in es)) (and_left (not (member e.owner (owners_in es))) (distinct (owners_in es)) d)) in
        record {
          before = [];
          entry = e;
          behind = es;
          whole = refl;
          its = eqb-true e.owner owner same;
          nothing_left_fact = eqb-true e.allowance 0 (and_left (has_none e) (all has_none es) z);
          taken_out = rw same (ap (λ (xs : List Entry). e ∷ xs) (kept_none owner es none_behind).0);
          others = rw same (kept_none owner es none_behind).1;
        }
    by_owner_lem again false other =
        let rest = again (or_second (same_either_way e.owner owner false other) h) in
        record {
          before = e ∷ rest.before;
          entry = rest.entry;
          behind = rest.behind;
          whole = ap (λ (xs : List Entry). e ∷ xs) rest.whole;
          its = rest.its;
          nothing_left_fact = rest.nothing_left_fact;
          taken_out = rw other rest.taken_out;
          others = rw other (ap (λ (xs : List Entry). e ∷ xs) rest.others);
        }
      where
        or_second : {a b : Bool} → a ≡ false → (a || b) ≡ true → b ≡ true
        or_second {a} {b} f g = rw f at g

pub first_passes : (b : Bool) (x : ℕ) (xs : List Test) → first_failing ((x, b) ∷ xs) ≡ none → b ≡ true
unfolding first_failing
first_passes true x xs h = refl
first_passes false x xs h = absurd (none_some (sym h))

module _ (q : Queue) (m : MadeCall) where
  abbrev lent : LentLists
  lent = lent_to q m

  pub topped_up_lem : (owner n : ℕ) → first_failing (top_up_tests lent owner n) ≡ none → FoundEntry owner q.aside
  topped_up_lem owner n e = f
    where
      right : entries_right lent && (leb 1 n && member owner (owners_in (aside_of lent))) ≡ true
      right = first_passes _ 17 _ e

      all_owners : Bool
      all_owners = distinct (owners lent)

      allowances : Bool
      allowances = all has_steps (line_of lent) && all has_none (aside_of lent)

      f : FoundEntry owner q.aside
      f =
          let entries = and_left (entries_right lent) (leb 1 n && member owner (owners_in (aside_of lent))) right in
          let named = and_right (leb 1 n) (member owner (owners_in (aside_of lent)))
          (and_right (entries_right lent) (leb 1 n && member owner (owners_in (aside_of lent))) right) in
          let apart = distinct_right (owners_in (line_of lent)) (owners_in (aside_of lent)) (and_left all_owners allowances entries) in
          let rest = and_right (all has_steps (line_of lent)) (all has_none (aside_of lent)) (and_right all_owners allowances entries) in
          subst (λ (es : List Entry). FoundEntry owner es) (aside_lent q m) (found owner (aside_of lent) named apart rest)

  -- the queue after a top-up, by its first test that fails
  abbrev pub topped_to : ℕ → ℕ → Option ℕ → Queue
  topped_to owner n (some x) = q
  topped_to owner n none = queue (q.line ++ map (with_allowance n) (keep (has_owner owner) q.aside)) (keep (not_owner owner) q.aside)

  pub top_up_leaves : (v : Survey) (owner n : ℕ) → after_call v q lent (top_up owner n) ≡ topped_to owner n (first_failing (top_up_tests lent owner n))
  unfolding result_of_call
  top_up_leaves v owner n = by_tests (first_failing (top_up_tests lent owner n))
    where
      by_tests : (o : Option ℕ)
          → after_queued q (result_by_number (top_up_schema lent) (owner, n) o)
          (result_by_number (top_up_schema lent) (owner, n) o).answer ≡ topped_to owner n o
      by_tests (some x) = refl
      by_tests none = read_back lent (topped_up lent owner n) ∙ (λ i. queue
          (line_lent q m i ++ map (with_allowance n) (keep (has_owner owner) (aside_lent q m i))) (keep (not_owner owner) (aside_lent q m i)))

  -- where all pass it moves one entry
  pub one_topped : (owner n : ℕ) (e : first_failing (top_up_tests lent owner n) ≡ none) → topped_to owner n none
      ≡ queue (q.line ++ (with_allowance n (topped_up_lem owner n e).entry ∷ [])) ((topped_up_lem owner n e).before ++ (topped_up_lem owner n e).behind)
  one_topped owner n e =
      λ i. queue (q.line ++ map (with_allowance n) ((topped_up_lem owner n e).taken_out i)) ((topped_up_lem owner n e).others i)

  top_up_moves : (owner n : ℕ) (o : Option ℕ) → first_failing (top_up_tests lent owner n) ≡ o
      → Moves q (topped_to owner n o) (granted owner n (result_by_number (top_up_schema lent) (owner, n) o).answer)
  top_up_moves owner n (some x) e = stays
  top_up_moves owner n none e =
      let f = topped_up_lem owner n e in
      subst (λ (x : Queue). Moves q x (grants owner n)) (sym (one_topped owner n e))
      (subst (λ (x : ℕ). Moves q (queue (q.line ++ (with_allowance n f.entry ∷ [])) (f.before ++ f.behind)) (grants x n)) f.its
      (subst (λ (x : List Entry). Moves (queue q.line x)
      (queue (q.line ++ (with_allowance n f.entry ∷ [])) (f.before ++ f.behind)) (grants f.entry.owner n)) (sym f.whole)
      (returns q.line f.before f.behind f.entry n f.nothing_left_fact)))

-- ---- serving
module _ (v : Survey) (q : Queue) (m : MadeCall) (s : Serving) where
  abbrev held : LentLists
  held = lent_to q m

  module _ (e : Entry) (es : List Entry) (line_is : line_of held ≡ e ∷ es) where
    abbrev r : TurnResult
    r = front_turn v s e

    abbrev n : ℕ
    n = r.answer.steps

    -- a turn that is not refused takes no more steps than are left
    within : ((x : ℕ) → r.answer.ending ≡ ending.Refused x → ⊥) → n ≤ e.allowance
    within h = le_trans (progresses (entry_turn v s e (min s.quantum e.allowance)) h).within (min-le_right s.quantum e.allowance)

    front : q.line ≡ e ∷ es
    front = sym (line_lent q m) ∙ line_is

    from_front : {after : Queue} {d : Deed} → Moves (queue (e ∷ es) q.aside) after d → Moves q after d
    from_front {after} {d} h = subst (λ (es' : List Entry). Moves (queue es' q.aside) after d) (sym front) h

    -- both lists, and the deed, of a turn that ended so
    to_lists : (line aside line' aside' : List Entry) (x : TurnEnding) → r.answer.ending ≡ x → line ≡ line' → aside ≡ aside'
        → Moves q (queue line' aside') (turns e.owner x n (e.allowance - n))
        → ((y : ServeResult) (z : TurnEnding) → z ≡ x
        → Moves q (queue (take y.answer.waiting y.buffers.line) (take y.answer.resting y.buffers.aside))
        (turns y.answer.owner x y.answer.turned.steps y.answer.left)
        → Moves q (after_service q y z) (took_turn y z))
        → Moves q (after_service q (service_with held e r line aside) r.answer.ending) (took_turn (service_with held e r line aside) r.answer.ending)
    to_lists line aside line' aside' x is f g h k =
        k (service_with held e r line aside) r.answer.ending is
        (subst (λ (y : Queue). Moves q y (turns e.owner x n (e.allowance - n))) (sym (both_taken held line aside line' aside' f g)) h)

    done : (y : ServeResult) (z : TurnEnding) → z ≡ ending.Done
        → Moves q (queue (take y.answer.waiting y.buffers.line) (take y.answer.resting y.buffers.aside))
        (turns y.answer.owner ending.Done y.answer.turned.steps y.answer.left)
        → Moves q (after_service q y z) (took_turn y z)
    done y z is h = subst (λ (x : TurnEnding). Moves q (after_service q y x) (took_turn y x)) (sym is) h

    spent : (y : ServeResult) (z : TurnEnding) → z ≡ ending.Spent
        → Moves q (queue (take y.answer.waiting y.buffers.line) (take y.answer.resting y.buffers.aside))
        (turns y.answer.owner ending.Spent y.answer.turned.steps y.answer.left)
        → Moves q (after_service q y z) (took_turn y z)
    spent y z is h = subst (λ (x : TurnEnding). Moves q (after_service q y x) (took_turn y x)) (sym is) h

    full : (y : ServeResult) (z : TurnEnding) → z ≡ ending.Full
        → Moves q (queue (take y.answer.waiting y.buffers.line) (take y.answer.resting y.buffers.aside))
        (turns y.answer.owner ending.Full y.answer.turned.steps y.answer.left)
        → Moves q (after_service q y z) (took_turn y z)
    full y z is h = subst (λ (x : TurnEnding). Moves q (after_service q y x) (took_turn y x)) (sym is) h

    back : (x : TurnEnding) → r.answer.ending ≡ x → (x ≡ ending.Done → ⊥) → ((y : ℕ) → x ≡ ending.Refused y → ⊥)
        → ((y : ServeResult) (z : TurnEnding) → z ≡ x
        → Moves q (queue (take y.answer.waiting y.buffers.line) (take y.answer.resting y.buffers.aside))
        (turns y.answer.owner x y.answer.turned.steps y.answer.left)
        → Moves q (after_service q y z) (took_turn y z))
        → Moves q (after_service q (requeued held e es r) (requeued held e es r).answer.turned.ending)
        (took_turn (requeued held e es r) (requeued held e es r).answer.turned.ending)
    back x is not_done served k = by_left (eqb (e.allowance - n) 0) refl
      where
        d : Entry
        d = entry_after e r

        few : n ≤ e.allowance
        few = within (λ y h. served y (sym is ∙ h))

        choose : Bool → ServeResult
        choose b = cond b (service_with held e r es (aside_of held ++ (d ∷ []))) (service_with held e r (es ++ (d ∷ [])) (aside_of held))

        by_left : (b : Bool) → eqb (e.allowance - n) 0 ≡ b
            → Moves q (after_service q (choose b) (choose b).answer.turned.ending) (took_turn (choose b) (choose b).answer.turned.ending)
        by_left true z =
            to_lists es (aside_of held ++ (d ∷ [])) es (q.aside ++ (d ∷ [])) x is refl (ap (λ (ds : List Entry). ds ++ (d ∷ [])) (aside_lent q m))
            (from_front (runs_out e d es q.aside x n few not_done refl refl (eqb-true (e.allowance - n) 0 z))) k
        by_left false z =
            to_lists (es ++ (d ∷ [])) (aside_of held) (es ++ (d ∷ [])) q.aside x is refl (aside_lent q m)
            (from_front (goes_on_fact e d es q.aside x n few not_done refl refl)) k

    by_ending_lem : (x : TurnEnding) → r.answer.ending ≡ x
        → Moves q (after_service q (turned_to held s e es r x) (turned_to held s e es r x).answer.turned.ending)
        (took_turn (turned_to held s e es r x) (turned_to held s e es r x).answer.turned.ending)
    by_ending_lem ending.Done is =
        to_lists es (aside_of held) es q.aside ending.Done is refl (aside_lent q m)
        (from_front (leaves e es q.aside n (within (λ y h. let z : ◌≡◌ {A = ℕ} 0 1 = cc in omega arith)))) done
    by_ending_lem ending.Spent is = back ending.Spent is (λ h. let z : ◌≡◌ {A = ℕ} 0 1 = cc in omega arith) (λ y h. let z : ◌≡◌ {A = ℕ} 0 1 = cc in
        omega arith) spent
    by_ending_lem ending.Full is = back ending.Full is (λ h. let z : ◌≡◌ {A = ℕ} 0 1 = cc in omega arith) (λ y h. let z : ◌≡◌ {A = ℕ} 0 1 = cc in
        omega arith) full
    by_ending_lem (ending.Refused x) is = stays

  by_line : (es : List Entry) → line_of held ≡ es
      → Moves q (after_service q (front_served v held s es) (front_served v held s es).answer.turned.ending)
      (took_turn (front_served v held s es) (front_served v held s es).answer.turned.ending)
  by_line [] is = stays
  by_line (e ∷ es) is = by_ending_lem e es is (front_turn v s e).answer.ending refl

  serve_moves : (o : Option ℕ) → let y = result_by_number (serve_schema v held) s o in
      Moves q (after_service q y y.answer.turned.ending) (took_turn y y.answer.turned.ending)
  serve_moves (some x) = stays
  serve_moves none = by_line (line_of held) refl

-- what one call does
pub call_moves : (v : Survey) (q : Queue) (m : MadeCall) (c : QueueCall) → Moves q (after_call v q (lent_to q m) c) (deed_of v (lent_to q m) c)
unfolding result_of_call
call_moves v q m (join j) =
    subst (λ (x : Queue). Moves q x (deed_of v (lent_to q m) (join j))) (sym (join_leaves v q m j))
    (join_moves v q m j (first_failing (join_tests v (lent_to q m) j)))
call_moves v q m (serve s) = serve_moves v q m s (first_failing (serve_tests v (lent_to q m) s))
call_moves v q m (top_up owner n) =
    subst (λ (x : Queue). Moves q x (deed_of v (lent_to q m) (top_up owner n))) (sym (top_up_leaves q m v owner n))
    (top_up_moves q m owner n (first_failing (top_up_tests (lent_to q m) owner n)) refl)
